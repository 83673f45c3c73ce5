-- Reading by pieces: two pieces in a row are one, a record is kept until it is whole, and then it is judged, however it came.
-- Assumes nothing.
use mathlib.Core.Path.{◌≡◌, refl, sym, ap, ◌∙◌}
use mathlib.Core.Bool.{Bool, true, false, cond, and-false}
use mathlib.Core.List.{List, [], ◌∷◌, ◌++◌, append-nil}
use Prim.Native.Nat.{ℕ, ◌+◌, ◌≤◌, ◌<◌}
use native.Mathlib.Omega.{arith}
use lib.ListN.{length, take, drop, length-append, take-append-drop}
use lib.Seq.{length-take-le, append_snoc, take-append-le}
use lib.Dec.{leb, eqb}
use borrow.Author.Tests.{le-leb, lt-leb, leb-true, leb-false}
use Rattle.frame.specs.Records.{lengths, is_foot}
use Rattle.frame.specs.Verdict.{Rules}
use Rattle.frame.specs.Machine.{State, at, size, head_tally, head_read, item_tally, item_counted, item_read, foot_tally, foot_read, judged, pushed, step, run}

-- two bytes show a foot, and fewer don't
seen : (h t : List ℕ) → 2 ≤ length h → is_foot (h ++ t) ≡ is_foot h
unfolding is_foot
seen h t l = rw (take-append-le 2 h t l)

pub unseen : (h : List ℕ) → length h < 2 → is_foot h ≡ false
unfolding is_foot
unseen [] l = refl
unseen (x ∷ []) l = and-false (eqb x 48)
unseen (x ∷ y ∷ h) l = absurd (omega arith)

-- the part that is taken shows a foot as the whole does
pub foot_front : (n : ℕ) (x : List ℕ) → 2 ≤ n → n ≤ length x → is_foot (take n x) ≡ is_foot x
foot_front n x m l = sym (seen (take n x) (drop n x) (omega (arith, length-take-le n x l))) ∙ ap is_foot (take-append-drop n x)

-- a record that isn't whole isn't whole before
early : (p : ℕ) (h t : List ℕ) → length h < size p (h ++ t) → length h < size p h
unfolding size
early p h t l = by_phase (eqb p 0) l
  where
    by_seen : (b : Bool) → leb 2 (length h) ≡ b → length h < cond (is_foot (h ++ t)) (lengths.foot + 2) (lengths.item + 2)
        → length h < cond (is_foot h) (lengths.foot + 2) (lengths.item + 2)
    by_seen true e l = rw (seen h t (leb-true 2 (length h) e)) at l
    by_seen false e l = let m : length h < 2 = leb-false 2 (length h) e in rw (unseen h m) (omega arith)

    by_phase : (b : Bool) → length h < cond b (lengths.head + 2) (cond (is_foot (h ++ t)) (lengths.foot + 2) (lengths.item + 2))
        → length h < cond b (lengths.head + 2) (cond (is_foot h) (lengths.foot + 2) (lengths.item + 2))
    by_phase true l = l
    by_phase false l = by_seen (leb 2 (length h)) refl l

-- the size shows in the first two bytes
pub size_front : (p n : ℕ) (x : List ℕ) → 2 ≤ n → n ≤ length x → size p (take n x) ≡ size p x
unfolding size
size_front p n x m l = rw (foot_front n x m l)

pub size_seen : (p : ℕ) (h t : List ℕ) → 2 ≤ length h → size p (h ++ t) ≡ size p h
unfolding size
size_seen p h t l = rw (seen h t l)

module _ (R : Rules) where
  pub run_append : (s : State) (a b : List ℕ) → run R s (a ++ b) ≡ run R (run R s a) b
  unfolding run
  run_append s [] b = refl
  run_append s (x ∷ a) b = run_append (step R s x) a b

  -- one byte, where the record isn't whole with it, and where it is
  step_kept : (s : State) (h : List ℕ) (b : ℕ) → s.tally.phase ≤ 1 → s.held ≡ h → length (h ++ (b ∷ [])) < size s.tally.phase (h ++ (b ∷ []))
      → step R s b ≡ at s.tally.phase (h ++ (b ∷ [])) s
  unfolding step pushed
  step_kept s h b p e l = rw (e, le-leb _ _ p, lt-leb _ _ l)

  step_whole : (s : State) (h : List ℕ) (b : ℕ) → s.tally.phase ≤ 1 → s.held ≡ h → size s.tally.phase (h ++ (b ∷ [])) ≤ length (h ++ (b ∷ []))
      → step R s b ≡ judged R s (h ++ (b ∷ []))
  unfolding step pushed
  step_whole s h b p e l = rw (e, le-leb _ _ p, le-leb _ _ l)

  -- judging a record looks at nothing that was held
  judged_at : (s : State) (h r : List ℕ) → judged R (at s.tally.phase h s) r ≡ judged R s r
  unfolding judged head_tally head_read item_tally item_counted item_read foot_tally foot_read
  judged_at s h r = refl

  -- what is taken in before a record is whole is kept
  pub run_kept : (s : State) (h x : List ℕ) → s.tally.phase ≤ 1 → s.held ≡ h → length (h ++ x) < size s.tally.phase (h ++ x)
      → run R s x ≡ at s.tally.phase (h ++ x) s
  unfolding run
  run_kept s h [] p e l = rw (append-nil, ← e)
  run_kept s h (b ∷ x) p e l =
      let g : List ℕ = h ++ (b ∷ []) in
      let e₁ : g ++ x ≡ h ++ (b ∷ x) = append_snoc h b x in
      let l₁ : length (g ++ x) < size s.tally.phase (g ++ x) = rw e₁ l in
      let l₂ : length g < size s.tally.phase (g ++ x) = omega (arith, length-append g x) in
      ap (λ (q : State). run R q x) (step_kept s h b p e (early s.tally.phase g x l₂))
      ∙ run_kept (at s.tally.phase g s) g x p refl l₁
      ∙ ap (λ (y : List ℕ). at s.tally.phase y s) e₁

  -- with its last byte a record is judged
  pub run_whole : (s : State) (h : List ℕ) (b : ℕ) (x : List ℕ) → s.tally.phase ≤ 1 → s.held ≡ h
      → length (h ++ (b ∷ x)) ≡ size s.tally.phase (h ++ (b ∷ x)) → run R s (b ∷ x) ≡ judged R s (h ++ (b ∷ x))
  unfolding run
  run_whole s h b [] p e l = step_whole s h b p e (omega arith)
  run_whole s h b (b₂ ∷ x) p e l =
      let g : List ℕ = h ++ (b ∷ []) in
      let e₁ : g ++ (b₂ ∷ x) ≡ h ++ (b ∷ b₂ ∷ x) = append_snoc h b (b₂ ∷ x) in
      let l₁ : length (g ++ (b₂ ∷ x)) ≡ size s.tally.phase (g ++ (b₂ ∷ x)) = rw e₁ l in
      let l₂ : length g < size s.tally.phase (g ++ (b₂ ∷ x)) = omega (arith, length-append g (b₂ ∷ x)) in
      ap (λ (q : State). run R q (b₂ ∷ x)) (step_kept s h b p e (early s.tally.phase g (b₂ ∷ x) l₂))
      ∙ run_whole (at s.tally.phase g s) g b₂ x p refl l₁
      ∙ judged_at s g (g ++ (b₂ ∷ x))
      ∙ ap (judged R s) e₁

  -- a whole record, with none begun
  pub run_exact : (s : State) (y : List ℕ) → s.tally.phase ≤ 1 → s.held ≡ [] → length y ≡ size s.tally.phase y → 0 < length y → run R s y ≡ judged R s y
  run_exact s [] p e l m = absurd (omega arith)
  run_exact s (b ∷ y) p e l m = run_whole s [] b y p e l

  -- a record at the front of what comes
  pub run_record : (s : State) (x : List ℕ) (n : ℕ) → s.tally.phase ≤ 1 → s.held ≡ [] → n ≡ size s.tally.phase (take n x) → 0 < n → n ≤ length x
      → run R s x ≡ run R (judged R s (take n x)) (drop n x)
  run_record s x n p e z some l =
      let m : length (take n x) ≡ n = length-take-le n x l in
      sym (ap (run R s) (take-append-drop n x))
      ∙ run_append s (take n x) (drop n x)
      ∙ ap (λ (q : State). run R q (drop n x)) (run_exact s (take n x) p e (m ∙ z) (omega arith))

  -- after a break and after an overflow nothing is judged
  pub run_broken : (s : State) (x : List ℕ) → run R (at 3 [] s) x ≡ at 3 [] s
  unfolding run step
  run_broken s [] = refl
  run_broken s (b ∷ x) = run_broken s x

  pub run_overflown : (s : State) (x : List ℕ) → run R (at 4 [] s) x ≡ at 4 [] s
  unfolding run step
  run_overflown s [] = refl
  run_overflown s (b ∷ x) = run_overflown s x

  -- a byte after the foot is a break
  pub run_after : (s : State) (b : ℕ) (x : List ℕ) → s.tally.phase ≡ 2 → run R s (b ∷ x) ≡ at 3 [] s
  unfolding run step
  run_after s b x e = rw e (run_broken s x)
