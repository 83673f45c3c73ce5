-- Under a bar every complete item has code 14 and none is accepted; without one a message is judged as by the rules that know no bar (02, #105).
-- Assumes nothing.
use mathlib.Core.Path.{◌≡◌, refl, sym, ap, ◌∙◌}
use mathlib.Core.Bool.{Bool, true, false, cond, not, ◌&&◌, and-false, false≢true}
use mathlib.Core.List.{List, [], ◌∷◌, ◌++◌, map}
use Prim.Native.Nat.{ℕ, ◌+◌}
use lib.Dec.{eqb}
use lib.ListN.{length, take, drop, replicate}
use Rattle.base.specs.Bytes.{field}
use Rattle.digits.specs.Digits.{number_of}
use Rattle.frame.specs.declared.Told.{Told}
use Rattle.frame.specs.Records.{lengths, head_stands, head_of, items_of}
use Rattle.frame.specs.Verdict.{Rules, Verdict, none, untold, accepted, blank, overflow, given, counted, findings, found_in}
use Rattle.frame.specs.Verdict.{message_code, identifier, told_by, overflows, verdict, table_after}
use Rattle.frame.proofs.Alike.{Alike, same_code, same_verdict, same_table}
use Rattle.frame.proofs.Counting.{findings_length}
use Rattle.fields.specs.Fields.{digits_of}
use Rattle.kinds.specs.Kinds.{BESZED, kind_of, is_beszed, told_of}
use Rattle.kinds.specs.Codes.{item_found, under_bar, rules_by, rules_unbarred}

module _ (e : ℕ) (is_listed : ℕ → Bool) (known : List ℕ) (is_barred : ℕ → Bool) (m : List ℕ) where
  abbrev R : Rules
  R = rules_by e is_listed known is_barred

  abbrev Unbarred : Rules
  Unbarred = rules_unbarred e is_listed known

  abbrev is : List (List ℕ)
  is = items_of lengths m

  abbrev told : Told
  told = told_of is_barred (head_of lengths m)

  -- what a head with its right ending told is what its items are judged by
  head_told : (b : Bool) → head_stands lengths m ≡ b → told_by R m ≡ cond b told untold
  unfolding told_by
  head_told b h = rw h

  -- the bar is a bar of the items
  by_head : (told_by R m).barred ≡ true → told.barred ≡ true
  by_head p = go (head_stands lengths m) refl
    where
      go : (b : Bool) → head_stands lengths m ≡ b → told.barred ≡ true
      go true h = sym (ap (λ (t : Told). t.barred) (head_told true h)) ∙ p
      go false h = absurd (false≢true (sym (ap (λ (t : Told). t.barred) (head_told false h)) ∙ p))

  -- under a bar the codes are 14, and no item is accepted
  module _ (kind : ℕ) where
    abbrev bar : Told
    bar = record { kind = kind; barred = true }

    codes : (k : ℕ) (rs : List (List ℕ)) → map (λ f. f.code) (findings R bar k rs) ≡ replicate (length rs) 14
    unfolding findings
    codes k [] = refl
    codes k (r ∷ rs) = ap (λ (cs : List ℕ). 14 ∷ cs) (codes (k + 1) rs)

    nobody : (k : ℕ) (rs : List (List ℕ)) → accepted (findings R bar k rs) ≡ []
    unfolding findings
    nobody k [] = refl
    nobody k (r ∷ rs) = nobody (k + 1) rs

  module _ (p : (told_by R m).barred ≡ true) where
    told_bar : told ≡ bar told.kind
    told_bar = λ i. record { kind = told.kind; barred = by_head p i }

    -- each complete item has 14
    pub all_14 : map (λ f. f.code) (found_in R m) ≡ replicate (length is) 14
    all_14 = ap (λ (t : Told). map (λ f. f.code) (findings R t 1 is)) told_bar ∙ codes told.kind 1 is

    nobody_told : accepted (found_in R m) ≡ []
    nobody_told = ap (λ (t : Told). accepted (findings R t 1 is)) told_bar ∙ nobody told.kind 1 is

    -- 14 in the byte of each complete item that has one, whatever else is wrong with it; the other bytes stay
    pub table_14 : (t : List ℕ) → table_after R t m ≡ take (length t) (replicate (length is) 14 ++ drop (length is) t)
    unfolding table_after
    table_14 t = rw (all_14, findings_length R told 1 is)

    -- nothing is accepted, and no account of zeros is watched, whatever the code
    pub none_accepted : (t : List ℕ) → ((verdict R t m).closing.accepted ≡ none) × ((verdict R t m).closing.zeros ≡ 0)
    unfolding verdict
    none_accepted t = go (overflows R t m) (eqb (message_code R m) 0)
      where
        v : Bool → Bool → Verdict
        v o z =
            cond o
            overflow
            (given (cond z (counted (told_by R m).kind (found_in R m) (identifier R m)) (blank (told_by R m).kind (message_code R m) (identifier R m))))

        go : (o z : Bool) → ((v o z).closing.accepted ≡ none) × ((v o z).closing.zeros ≡ 0)
        go true z = (refl, refl)
        go false true = rw nobody_told (refl, refl)
        go false false = (refl, refl)

  -- without a bar what is found in the items is what it would be if there were none
  module _ (p : (told_by R m).barred ≡ false) where
    module _ (q : told.barred ≡ false) where
      same_findings : (k : ℕ) (rs : List (List ℕ)) → findings R told k rs ≡ findings Unbarred (record { kind = told.kind; barred = false }) k rs
      unfolding findings
      same_findings k [] = refl
      same_findings k (r ∷ rs) = λ i. under_bar (q i) (item_found told.kind e is_listed k r) ∷ same_findings (k + 1) rs i

    alike : Alike R Unbarred m
    unfolding told_by told_of findings
    alike = go (head_stands lengths m) refl
      where
        go : (b : Bool) → head_stands lengths m ≡ b → Alike R Unbarred m
        go true h =
            record {
              letter = refl;
              code = refl;
              foot = refl;
              found = same_findings (sym (ap (λ (t : Told). t.barred) (head_told true h)) ∙ p) 1 is;
              kind = rw h;
            }
        go false h = record { letter = refl; code = refl; foot = refl; found = rw h; kind = rw h }

    pub unbarred_found : found_in R m ≡ found_in Unbarred m
    unbarred_found = alike.found

    -- so all answers are those of the judge that knows no bar, whatever the barred list
    pub unbarred_code : message_code R m ≡ message_code Unbarred m
    unbarred_code = same_code R Unbarred m alike

    pub unbarred_verdict : (t : List ℕ) → verdict R t m ≡ verdict Unbarred t m
    unbarred_verdict = same_verdict R Unbarred m alike

    pub unbarred_table : (t : List ℕ) → table_after R t m ≡ table_after Unbarred t m
    unbarred_table = same_table R Unbarred m alike

  -- BESZED knows no bar
  pub beszed_unbarred : kind_of (head_of lengths m) ≡ BESZED → (told_by R m).barred ≡ false
  unfolding told_by told_of
  beszed_unbarred h = go (head_stands lengths m)
    where
      go : (b : Bool) → (cond b told untold).barred ≡ false
      go true = rw h
      go false = refl

  -- where no number is on the list no head tells a bar
  pub none_barred : ((x : ℕ) → is_barred x ≡ false) → (told_by R m).barred ≡ false
  unfolding told_by told_of
  none_barred h = go (head_stands lengths m)
    where
      n : ℕ
      n = number_of (field 35 37 (head_of lengths m))

      d : Bool
      d = digits_of 8 (field 35 42 (head_of lengths m))

      a : Bool
      a = not (is_beszed (kind_of (head_of lengths m)))

      go : (b : Bool) → (cond b told untold).barred ≡ false
      go true = ap (λ (c : Bool). a && (d && c)) (h n) ∙ ap (λ (c : Bool). a && c) (and-false d) ∙ and-false a
      go false = refl
