-- However a message is cut, reading it ends with the verdict on the uncut message, and with the same table.
-- Assumes nothing.
use mathlib.Core.Path.{◌≡◌, refl, sym, ap, ◌∙◌}
use mathlib.Core.Bool.{Bool, true, false, cond, not, ◌&&◌, ◌||◌}
use mathlib.Core.List.{List, [], ◌∷◌, ◌++◌, map, append-nil}
use Prim.Native.Nat.{ℕ, ◌+◌, ◌≤◌, ◌<◌}
use native.Mathlib.Nat.{zero-add, sub-zero}
use native.Mathlib.Omega.{arith}
use lib.ListN.{length, take, drop, length-append, length-drop, length-map, drop_of_length-le}
use lib.Seq.{length-take-le, take_all, take-append-le}
use lib.Dec.{leb, ltb, eqb}
use borrow.Author.Tests.{leb-true, leb-false, ne_eqb, lt-ltb, le-ltb, ltb-true}
use Rattle.frame.specs.declared.Found.{Found}
use Rattle.frame.specs.declared.Totals.{Totals}
use Rattle.frame.specs.declared.Tally.{Tally}
use Rattle.frame.specs.declared.Closing.{Closing}
use Rattle.frame.specs.Records.{Sizes, lengths, id_of, ended, foot_stands, items_in, rest_after, head_of}
use Rattle.frame.specs.Verdict.{Rules, Verdict, first, any, accepted, refused, total, totals_of, none, watched, blank, overflow, given, counted, findings}
use Rattle.frame.specs.Verdict.{found_in, message_code, identifier, told_by, verdict, table_after}
use Rattle.frame.specs.Machine.{State, fresh, at, items, sum, earlier, numbers, head_tally, head_read, foot_tally, foot_read, run, closing, runs, joined}
use Rattle.frame.proofs.Pieces.{run_append}
use Rattle.frame.proofs.Counting.{
  tallied,
  findings_length,
  tally_phase,
  tally_held,
  tally_told,
  tally_id,
  tally_letter,
  tally_code,
  tally_accepted,
  tally_accepted_sum,
  tally_refused,
  tally_refused_sum,
  tally_zeros,
  tally_items,
  tally_sum,
  tally_table,
  earlier_assoc,
  none_earlier,
  map_take,
  findings_take,
}
use Rattle.frame.proofs.Uncut.{Ends, ended_long, rest_ends, rest_no_item, run_items, run_over, head_first, headless}

-- a message whose head stands
module _ (R : Rules) (t m : List ℕ) (e : ended lengths.head m ≡ true) where
  abbrev Z : Sizes
  Z = lengths

  abbrev head : List ℕ
  head = head_of Z m

  abbrev x : List ℕ
  x = drop (Z.head + 2) m

  abbrev its : List (List ℕ)
  its = items_in Z (length m) x

  abbrev fs : List Found
  fs = findings R (R.tells head) 1 its

  abbrev y : List ℕ
  y = rest_after Z (length m) x

  abbrev s₀ : State
  s₀ = head_read R (fresh t) head

  -- the state after the head
  after_head : State
  after_head =
      record {
        tally = record {
          phase = 1;
          told = R.tells head;
          letter = R.head_letter head;
          code = R.head_code head;
          accepted = none;
          refused = none;
          zeros = 0;
          id = id_of head;
        };
        held = [];
        table = t;
      }

  is_after : s₀ ≡ after_head
  unfolding head_tally head_read after_head
  is_after = refl

  started : run R (fresh t) m ≡ run R after_head x
  started = head_first R t m (ended_long Z.head m e) true e ∙ ap (λ (q : State). run R q x) is_after

  few : length x ≤ length m
  few = omega (arith, length-drop (Z.head + 2) m)

  -- what the definitions say of it
  found : found_in R m ≡ fs
  found = rw e

  named : identifier R m ≡ id_of head
  unfolding identifier
  named = rw e

  found_length : length fs ≡ length its
  found_length = findings_length R (R.tells head) 1 its

  codes : List ℕ
  codes = map (λ f. f.code) fs

  codes_length : length codes ≡ length its
  unfolding codes
  codes_length = length-map fs (λ f. f.code) ∙ found_length

  table_is : table_after R t m ≡ take (length t) (codes ++ drop (length its) t)
  unfolding table_after codes
  table_is = rw (found, found_length)

  module _ (o : length t < length its) where
    kept : List Found
    kept = findings R (R.tells head) 1 (take (length t) its)

    kept_is : map (λ f. f.code) kept ≡ take (length t) codes
    unfolding kept codes
    kept_is = ap (map (λ f. f.code)) (findings_take R (R.tells head) 1 (length t) its) ∙ map_take (λ f. f.code) (length t) fs

    kept_length : length kept ≡ length t
    unfolding kept
    kept_length = findings_length R (R.tells head) 1 (take (length t) its) ∙ length-take-le (length t) its (omega arith)

    over_run : run R after_head x ≡ at 4 [] (tallied after_head kept)
    unfolding after_head kept
    over_run = rw sub-zero at (run_over R (length m) after_head x few refl refl (omega arith) (omega arith))

    over_table : (tallied after_head kept).table ≡ table_after R t m
    unfolding after_head
    over_table =
        tally_table after_head kept (omega (arith, kept_length))
        ∙ ap (λ (l : List ℕ). l ++ drop (0 + length kept) t) kept_is
        ∙ ap (λ (l : List ℕ). take (length t) codes ++ l) (drop_of_length-le t {i = 0 + length kept} (omega (arith, kept_length)))
        ∙ append-nil (take (length t) codes)
        ∙ sym (take-append-le (length t) codes (drop (length its) t) (omega (arith, codes_length)))
        ∙ sym table_is

    over_ends : Ends (run R (fresh t) m) (verdict R t m) (table_after R t m)
    unfolding verdict closing
    over_ends = rw (started, over_run) (record { says = rw (found, found_length, lt-ltb (length t) (length its) o); bytes = over_table })

  module _ (o : length its ≤ length t) where
    -- the state after the items
    s₁ : State
    s₁ = tallied after_head fs

    items_run : run R after_head x ≡ run R s₁ y
    unfolding after_head s₁
    items_run = run_items R (length m) after_head x few refl refl (omega arith)

    s₁_phase : s₁.tally.phase ≡ 1
    unfolding s₁ after_head
    s₁_phase = tally_phase after_head fs refl

    s₁_held : s₁.held ≡ []
    unfolding s₁ after_head
    s₁_held = tally_held after_head fs refl

    s₁_id : s₁.tally.id ≡ identifier R m
    unfolding s₁ after_head
    s₁_id = tally_id after_head fs ∙ sym named

    s₁_items : items s₁.tally ≡ length fs
    unfolding s₁ after_head
    s₁_items = tally_items after_head fs ∙ zero-add (length fs)

    s₁_sum : sum s₁.tally ≡ total fs
    unfolding s₁ after_head
    s₁_sum = tally_sum after_head fs ∙ zero-add (total fs)

    s₁_letter : s₁.tally.letter ≡ R.head_letter head || any (map (λ f. f.letter) fs)
    unfolding s₁ after_head
    s₁_letter = tally_letter after_head fs

    s₁_code : s₁.tally.code ≡ earlier (R.head_code head) (first (map (λ f. f.fault) fs))
    unfolding s₁ after_head
    s₁_code = tally_code after_head fs

    s₁_table : s₁.table ≡ table_after R t m
    unfolding s₁ after_head codes
    s₁_table =
        let n : length (codes ++ drop (length its) t) ≤ length t =
        omega (arith, length-append codes (drop (length its) t), codes_length, length-drop (length its) t) in
        tally_table after_head fs (omega (arith, found_length))
        ∙ ap (λ (n : ℕ). codes ++ drop n t) (zero-add (length fs) ∙ found_length)
        ∙ sym (take_all (length t) (codes ++ drop (length its) t) n)
        ∙ sym table_is

    -- the numbers of that state
    totals_are : {n m k l : ℕ} → n ≡ k → m ≡ l → ◌≡◌ {A = Totals} (record { count = n; sum = m }) (record { count = k; sum = l })
    totals_are p q = λ i. record { count = p i; sum = q i }

    s₁_accepted : s₁.tally.accepted ≡ totals_of (accepted fs)
    unfolding s₁ after_head
    s₁_accepted =
        totals_are (tally_accepted after_head fs ∙ zero-add (length (accepted fs))) (tally_accepted_sum after_head fs ∙ zero-add (total (accepted fs)))

    s₁_refused : s₁.tally.refused ≡ totals_of (refused fs)
    unfolding s₁ after_head
    s₁_refused =
        totals_are (tally_refused after_head fs ∙ zero-add (length (refused fs))) (tally_refused_sum after_head fs ∙ zero-add (total (refused fs)))

    s₁_zeros : s₁.tally.zeros ≡ watched (accepted fs)
    unfolding s₁ after_head
    s₁_zeros = tally_zeros after_head fs ∙ zero-add (watched (accepted fs))

    s₁_told : s₁.tally.told ≡ told_by R m
    unfolding s₁ after_head head_read head_tally told_by
    s₁_told = tally_told after_head fs ∙ rw e

    s₁_numbers : numbers s₁.tally ≡ counted (told_by R m).kind fs (identifier R m)
    s₁_numbers = λ i. record { code = 0; kind = (s₁_told i).kind; accepted = s₁_accepted i; refused = s₁_refused i; zeros = s₁_zeros i; id = s₁_id i }

    -- what follows from the letters and the code, after the foot
    abbrev after : Bool → ℕ → List ℕ → Closing → ℕ → Verdict
    after l kind id k c = given (cond l (blank kind 36 id) (cond (eqb c 0) k (blank kind c id)))

    -- what closing says after the foot
    foot_closing : (s : State) (r : List ℕ) → (items s.tally ≡ 0 → ⊥) → (c : ℕ)
        → earlier s.tally.code (R.foot_code (items s.tally) (sum s.tally) r) ≡ c
        → closing (foot_read R s r).tally
        ≡ after s.tally.letter s.tally.told.kind s.tally.id (numbers s.tally) c
    unfolding foot_read foot_tally closing
    foot_closing s r q c k = rw (ne_eqb (items s.tally) 0 q, k)

    -- the codes of head, items and foot, ranked
    abbrev ranked : ℕ
    ranked = first (R.head_code head ∷ first (map (λ f. f.fault) fs) ∷ R.foot_code (length fs) (total fs) (take Z.foot y) ∷ [])

    s₁_ranked : earlier s₁.tally.code (R.foot_code (items s₁.tally) (sum s₁.tally) (take Z.foot y)) ≡ ranked
    s₁_ranked =
        let a = R.head_code head in
        let b = first (map (λ f. f.fault) fs) in
        let c = R.foot_code (length fs) (total fs) (take Z.foot y) in
        rw (s₁_items, s₁_sum, s₁_code) (earlier_assoc a b c ∙ ap (λ (n : ℕ). earlier a (earlier b n)) (none_earlier c))

    abbrev letters : Bool
    letters = R.head_letter head || any (map (λ f. f.letter) fs)

    abbrev id : List ℕ
    id = identifier R m

    abbrev kind : ℕ
    kind = (told_by R m).kind

    -- what follows from a foot that stands after some item, and from the letters
    abbrev by : Bool → Bool → Verdict
    by stands l = cond stands (after l kind id (counted kind fs id) ranked) (given (blank kind 26 id))

    code_is : message_code R m ≡ cond (foot_stands Z y && ltb 0 (length its)) (cond letters 36 ranked) 26
    unfolding message_code
    code_is = rw e (go (ltb 0 (length its)) (foot_stands Z y) letters)
      where
        go : (a b l : Bool)
            → first
            (cond (not (a && b)) 26 0
            ∷ cond l 36 0
            ∷ R.head_code head
            ∷ first (map (λ f. f.fault) fs)
            ∷ R.foot_code (length fs) (total fs) (take Z.foot y)
            ∷ [])
            ≡ cond (b && a) (cond l 36 ranked) 26
        go true true true = refl
        go true true false = refl
        go true false l = refl
        go false true l = refl
        go false false l = refl

    -- the verdict, with a message code
    abbrev coded : ℕ → Verdict
    coded c = given (cond (eqb c 0) (counted kind fs id) (blank kind c id))

    opened : verdict R t m ≡ cond (ltb (length t) (length fs)) overflow (coded (message_code R m))
    unfolding verdict
    opened = rw found

    verdict_is : verdict R t m ≡ by (foot_stands Z y && ltb 0 (length its)) letters
    verdict_is =
        opened
        ∙ ap (λ (b : Bool). cond b overflow (coded (message_code R m))) (le-ltb (length t) (length fs) (omega (arith, found_length)))
        ∙ ap coded code_is
        ∙ go (foot_stands Z y && ltb 0 (length its)) letters
      where
        go : (b l : Bool) → coded (cond b (cond l 36 ranked) 26) ≡ by b l
        go true true = refl
        go true false = refl
        go false l = refl

    -- the state after the foot, or the break in its place
    abbrev c₁ : Tally
    c₁ = s₁.tally

    abbrev footed : Verdict
    footed = closing (foot_read R s₁ (take Z.foot y)).tally

    closing_is : cond (foot_stands Z y && ltb 0 (items c₁)) footed (given (blank c₁.told.kind 26 c₁.id))
        ≡ by (foot_stands Z y && ltb 0 (length its)) letters
    closing_is = go (foot_stands Z y) (ltb 0 (length its)) refl
      where
        same_items : ltb 0 (items c₁) ≡ ltb 0 (length its)
        same_items = ap (ltb 0) (s₁_items ∙ found_length)

        broken : given (blank c₁.told.kind 26 c₁.id) ≡ given (blank kind 26 id)
        broken = λ i. given (blank (s₁_told i).kind 26 (s₁_id i))

        says : ltb 0 (length its) ≡ true → footed ≡ by true letters
        says q =
            let n : items c₁ ≡ 0 → ⊥ = λ k. omega (arith, ltb-true 0 (length its) q, s₁_items, found_length) in
            foot_closing s₁ (take Z.foot y) n ranked s₁_ranked
            ∙ (λ i. after (s₁_letter i) (s₁_told i).kind (s₁_id i) (s₁_numbers i) ranked)

        go : (b a : Bool) → ltb 0 (length its) ≡ a → cond (b && ltb 0 (items c₁)) footed (given (blank c₁.told.kind 26 c₁.id)) ≡ by (b && a) letters
        go true true q = rw (same_items, q) (says q)
        go true false q = rw (same_items, q) broken
        go false a q = broken

    room_ends : Ends (run R (fresh t) m) (verdict R t m) (table_after R t m)
    room_ends =
        let k = rest_ends R s₁ s₁_phase s₁_held y (rest_no_item (length m) x few) in
        rw (started, items_run) (record { says = k.says ∙ closing_is ∙ sym verdict_is; bytes = k.bytes ∙ s₁_table })

  head_ends : Ends (run R (fresh t) m) (verdict R t m) (table_after R t m)
  head_ends = go (leb (length its) (length t)) refl
    where
      go : (b : Bool) → leb (length its) (length t) ≡ b → Ends (run R (fresh t) m) (verdict R t m) (table_after R t m)
      go true o = room_ends (leb-true (length its) (length t) o)
      go false o = over_ends (leb-false (length its) (length t) o)

-- a message run from a fresh state ends with the verdict on the uncut message, and its table
pub uncut : (R : Rules) (t m : List ℕ) → Ends (run R (fresh t) m) (verdict R t m) (table_after R t m)
uncut R t m = go (ended lengths.head m) refl
  where
    go : (b : Bool) → ended lengths.head m ≡ b → Ends (run R (fresh t) m) (verdict R t m) (table_after R t m)
    go true e = head_ends R t m e
    go false e = headless R t m e

runs_joined : (R : Rules) (s : State) (ps : List (List ℕ)) → runs R s ps ≡ run R s (joined ps)
unfolding runs joined run
runs_joined R s [] = refl
runs_joined R s (p ∷ ps) = runs_joined R (run R s p) ps ∙ sym (run_append R s p (joined ps))

-- the great theorem: whatever the pieces, closing says the verdict on their concatenation, and the table is its table
pub pieces : (R : Rules) (t : List ℕ) (ps : List (List ℕ)) → Ends (runs R (fresh t) ps) (verdict R t (joined ps)) (table_after R t (joined ps))
pieces R t ps = rw (runs_joined R (fresh t) ps) (uncut R t (joined ps))
