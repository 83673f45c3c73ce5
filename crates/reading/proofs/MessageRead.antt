-- Reading a STATUS message as it is written gives back what it says and the codes of its references, and finds it right.
-- Assumes nothing.
use mathlib.Core.Path.{◌≡◌, refl, sym, ap, ◌∙◌}
use mathlib.Core.Bool.{Bool, true, ◌&&◌}
use mathlib.Core.List.{List, [], ◌∷◌, ◌++◌, map, append_assoc, append-nil}
use Prim.Native.Nat.{ℕ, ◌+◌, ◌-◌, ◌*◌, ◌%◌, ◌^◌, ◌≤◌}
use native.Mathlib.Omega.{arith}
use lib.Dec.{leb, eqb}
use lib.ListN.{length, take, drop, get_or, length-append}
use lib.Seq.{take_at, drop_at}
use borrow.Author.Tests.{le-leb, eq-eqb}
use Rattle.base.specs.Bytes.{ascii, field}
use Rattle.digits.specs.Digits.{number_of}
use Rattle.judge.specs.Session.{most}
use Rattle.frame.specs.declared.Status.{Status}
use Rattle.status.specs.Records.{head_record, reference, references, foot_record, written, is_address}
use Rattle.fields.specs.Fields.{is_duplicate}
use Rattle.status.specs.Writing.{Writable}
use Rattle.reading.specs.Reading.{
  count_of,
  parts_of,
  head_in,
  references_in,
  foot_in,
  head_right,
  references_right,
  foot_right,
  codes_in,
  status_in,
  counts_right,
  is_status,
}
use Rattle.status.proofs.Lengths.{Items, head_length, reference_length, references_length, written_length}
use Rattle.status.proofs.Bounds.{Codes}
use Rattle.reading.proofs.RecordsRead.{
  head_duplicate,
  head_id,
  head_date,
  head_number,
  head_time,
  head_code,
  head_right_lem,
  reference_code,
  reference_right_lem,
  foot_accepted,
  foot_accepted_sum,
  foot_refused,
  foot_refused_sum,
  foot_right_lem,
}

-- the references one by one
abbrev listed : ℕ → List ℕ → List (List ℕ) → List (List ℕ)
listed k [] rs = []
listed k (c ∷ cs) [] = []
listed k (c ∷ cs) (r ∷ rs) = reference k c r ∷ listed (k + 1) cs rs

in_listed : (k : ℕ) (cs : List ℕ) (rs : List (List ℕ)) (y : List ℕ) → length cs ≡ length rs → Items rs
    → parts_of (length rs) (references k cs rs ++ y) ≡ listed k cs rs
unfolding references parts_of
in_listed k [] [] y e h = refl
in_listed k [] (r ∷ rs) y e h = absurd (omega arith)
in_listed k (c ∷ cs) [] y e h = absurd (omega arith)
in_listed k (c ∷ cs) (r ∷ rs) y e h =
    let q = reference k c r in
    let z = references (k + 1) cs rs ++ y in
    let l = reference_length k c r h.0 in
    let ih = in_listed (k + 1) cs rs y (omega arith) h.1 in
    ap (λ (w : List ℕ). take 65 w ∷ parts_of (length rs) (drop 65 w)) (append_assoc q (references (k + 1) cs rs) y)
    ∙ rw (take_at q z 65 l, drop_at q z 65 l, ih)

codes_listed : (k : ℕ) (cs : List ℕ) (rs : List (List ℕ)) → length cs ≡ length rs → Items rs → Codes cs
    → map (λ r. number_of (field 9 10 r)) (listed k cs rs) ≡ cs
codes_listed k [] rs e h c = refl
codes_listed k (c ∷ cs) [] e h d = absurd (omega arith)
codes_listed k (c ∷ cs) (r ∷ rs) e h d = rw (reference_code k c r h.0 d.0, codes_listed (k + 1) cs rs (omega arith) h.1 d.1)

listed_right : (k : ℕ) (cs : List ℕ) (rs : List (List ℕ)) → length cs ≡ length rs → Items rs → k + length cs ≤ 10 ^ 6
    → references_right k (listed k cs rs) ≡ true
unfolding references_right
listed_right k [] rs e h l = refl
listed_right k (c ∷ cs) [] e h l = absurd (omega arith)
listed_right k (c ∷ cs) (r ∷ rs) e h l =
    rw (reference_right_lem k c r h.0 (omega arith)) (listed_right (k + 1) cs rs (omega arith) h.1 (omega arith))

all_six : (a b c d e f : Bool) → a ≡ true → b ≡ true → c ≡ true → d ≡ true → e ≡ true → f ≡ true → a && (b && (c && (d && (e && f)))) ≡ true
all_six a b c d e f p q r s t u = rw (p, q, r, s, t, u)

-- what is said with a code for each reference can be read
pub record Readable (s : Status) (cs : List ℕ) : Type 0 where
  pub numbers : Writable s
  pub long : length s.id ≡ 25
  pub duplicate : is_duplicate s.duplicate ≡ true
  pub address : is_address s.id ≡ true
  pub references : s.references ≡ length cs
  pub most : length cs ≤ most
  pub codes : Codes cs
  pub counts : counts_right s cs ≡ true

module _ (s : Status) (cs : List ℕ) (rs : List (List ℕ)) (k : Readable s cs) (e : length cs ≡ length rs) (h : Items rs) where
  abbrev x : List ℕ
  x = written s cs rs

  abbrev after : List ℕ
  after = references 1 cs rs ++ foot_record s

  abbrev head : List ℕ
  head = head_record (ascii "STATUS") s

  head_long : length head ≡ 56
  head_long = head_length (ascii "STATUS") s refl k.long

  -- the head and what is after it
  split : x ≡ head ++ after
  unfolding written
  split = append_assoc head (references 1 cs rs) (foot_record s)

  whole_length : length x ≡ 104 + 65 * length rs
  whole_length = written_length s cs rs k.long e h

  pub count_is : count_of x ≡ length rs
  count_is = rw whole_length (omega arith)

  head_is : head_in x ≡ head
  head_is = ap (take 56) split ∙ take_at head after 56 head_long

  references_are : references_in x ≡ listed 1 cs rs
  references_are =
      ap (λ (n : ℕ). parts_of n (drop 56 x)) count_is
      ∙ ap (λ (y : List ℕ). parts_of (length rs) y) (ap (drop 56) split ∙ drop_at head after 56 head_long)
      ∙ in_listed 1 cs rs (foot_record s) e h

  foot_is : foot_in x ≡ foot_record s
  unfolding written
  foot_is =
      let b = references_length 1 cs rs (omega (arith, e)) h in
      let l : length (head ++ references 1 cs rs) ≡ 56 + 65 * length rs = rw (length-append, head_long, b) in
      ap (λ (n : ℕ). drop (56 + 65 * n) x) count_is ∙ drop_at (head ++ references 1 cs rs) (foot_record s) (56 + 65 * length rs) l

  -- the codes of the references
  pub codes_read : codes_in x ≡ cs
  codes_read = ap (map (λ r. number_of (field 9 10 r))) references_are ∙ codes_listed 1 cs rs e h k.codes

  -- what it says
  pub status_read : status_in x ≡ s
  unfolding status_in
  status_read =
      let l = k.long in
      let w = k.numbers in
      λ i. record {
        duplicate = (ap (λ (z : List ℕ). get_or z 8 0) split ∙ head_duplicate s l after) i;
        id = (ap (λ (z : List ℕ). field 10 34 z) split ∙ head_id s l after) i;
        date = (ap (λ (z : List ℕ). number_of (field 35 42 z)) split ∙ head_date s l after w) i;
        number = (ap (λ (z : List ℕ). number_of (field 43 46 z)) split ∙ head_number s l after w) i;
        time = (ap (λ (z : List ℕ). number_of (field 47 52 z)) split ∙ head_time s l after w) i;
        code = (ap (λ (z : List ℕ). number_of (field 53 54 z)) split ∙ head_code s l after w) i;
        accepted = record {
          count = (ap (λ (z : List ℕ). number_of (field 3 8 z)) foot_is ∙ foot_accepted s w) i;
          sum = (ap (λ (z : List ℕ). number_of (field 9 24 z)) foot_is ∙ foot_accepted_sum s w) i;
        };
        refused = record {
          count = (ap (λ (z : List ℕ). number_of (field 25 30 z)) foot_is ∙ foot_refused s w) i;
          sum = (ap (λ (z : List ℕ). number_of (field 31 46 z)) foot_is ∙ foot_refused_sum s w) i;
        };
        references = (count_is ∙ sym e ∙ sym k.references) i;
      }

  -- it is right
  pub is_status_lem : is_status x ≡ true
  unfolding is_status
  is_status_lem =
      let q : (length x - 104) % 65 ≡ 0 = rw whole_length (omega arith) in
      let r : head_right (head ++ []) ≡ true = head_right_lem s k.long [] k.duplicate k.address in
      let m : 1 + length cs ≤ 10 ^ 6 = omega (arith, k.most) in
      all_six (leb 104 (length x)) (eqb ((length x - 104) % 65) 0) (head_right (head_in x)) (references_right 1 (references_in x)) (foot_right (foot_in x))
      (counts_right (status_in x) (codes_in x))
      (le-leb 104 (length x) (omega (arith, whole_length)))
      (eq-eqb ((length x - 104) % 65) 0 q)
      (ap head_right (head_is ∙ sym (append-nil head)) ∙ r)
      (ap (references_right 1) references_are ∙ listed_right 1 cs rs e h m)
      (ap foot_right foot_is ∙ foot_right_lem s)
      (ap (λ (t : Status). counts_right t (codes_in x)) status_read ∙ ap (counts_right s) codes_read ∙ k.counts)
