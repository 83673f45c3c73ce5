-- Once the head was read, no byte changes the identifier, for any rules.
-- Assumes nothing.
use mathlib.Core.Path.{◌≡◌, refl, ◌∙◌}
use mathlib.Core.Bool.{Bool, true, false, cond}
use mathlib.Core.List.{List, [], ◌∷◌, ◌++◌}
use Prim.Native.Nat.{ℕ, ◌≤◌}
use native.Mathlib.Omega.{arith}
use lib.Dec.{leb, ltb, eqb}
use lib.ListN.{length, take}
use borrow.Author.Tests.{ne_eqb}
use Rattle.frame.specs.declared.Tally.{Tally}
use Rattle.frame.specs.Records.{lengths, ended, is_foot}
use Rattle.frame.specs.Verdict.{Rules}
use Rattle.frame.specs.Machine.{State, at, items, size, item_tally, item_counted, item_read, foot_tally, foot_read, judged, pushed, step, run}

-- a tally after the head, with the same identifier
record Later (c n : Tally) : Type 0 where
  phase : 1 ≤ n.phase
  id : n.id ≡ c.id

of_two : {c : Tally} (b : Bool) {x y : Tally} → Later c x → Later c y → Later c (cond b x y)
of_two true p q = p
of_two false p q = q

-- so too a state
record After (s n : State) : Type 0 where
  tally : Later s.tally n.tally

either : {s : State} (b : Bool) {x y : State} → After s x → After s y → After s (cond b x y)
either true p q = p
either false p q = q

module _ (R : Rules) (s : State) where
  at_later : (p : ℕ) (h : List ℕ) → 1 ≤ p → After s (at p h s)
  at_later p h l = record { tally = record { phase = l; id = refl } }

  broken : After s (at 3 [] s)
  broken = at_later 3 [] (omega arith)

  item_later : (r : List ℕ) → After s (item_read R s r)
  unfolding item_read item_counted item_tally
  item_later r =
      either (ltb (items s.tally) (length s.table))
      (record { tally = record { phase = omega arith; id = refl } })
      (at_later 4 [] (omega arith))

  foot_later : (r : List ℕ) → After s (foot_read R s r)
  unfolding foot_read foot_tally
  foot_later r =
      record { tally = of_two (eqb (items s.tally) 0) (record { phase = omega arith; id = refl }) (record { phase = omega arith; id = refl }) }

  module _ (p : 1 ≤ s.tally.phase) where
    judged_later : (x : List ℕ) → After s (judged R s x)
    unfolding judged
    judged_later x =
        let z : eqb s.tally.phase 0 ≡ false = ne_eqb s.tally.phase 0 (λ e. omega arith) in
        rw z
        (either (is_foot x)
        (either (ended lengths.foot x) (foot_later (take lengths.foot x)) broken)
        (either (ended lengths.item x) (item_later (take lengths.item x)) broken))

    step_later : (b : ℕ) → After s (step R s b)
    unfolding step pushed
    step_later b =
        let h = s.held ++ (b ∷ []) in
        either (leb s.tally.phase 1)
        (either (leb (size s.tally.phase h) (length h)) (judged_later h) (at_later s.tally.phase h p))
        (either (eqb s.tally.phase 4) (record { tally = record { phase = p; id = refl } }) broken)

pub id_kept : (R : Rules) (s : State) (x : List ℕ) → 1 ≤ s.tally.phase → (run R s x).tally.id ≡ s.tally.id
unfolding run
id_kept R s [] p = refl
id_kept R s (b ∷ x) p =
    let l = (step_later R s p b).tally in
    id_kept R (step R s b) x l.phase ∙ l.id
