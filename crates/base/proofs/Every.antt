-- Walks that ask whether every byte passes a test: what the bytes passed decided, with those that are left, decides as the whole does.
-- Assumes nothing.
use mathlib.Core.Path.{◌≡◌, refl, sym, ◌∙◌}
use mathlib.Core.Bool.{Bool, true, false, ◌&&◌, and_assoc, and-true, false≢true}
use mathlib.Core.List.{List, [], ◌∷◌}
use Prim.Native.Nat.{ℕ, zero, suc, ◌+◌, ◌<◌, ◌≤◌}
use lib.ListN.{length, get_or, take, drop}
use Rattle.base.specs.Bytes.{every}
use Rattle.base.proofs.Walk.{step, done}

-- both sides of an &&
pub both : (p q : Bool) → p && q ≡ true → (p ≡ true) × (q ≡ true)
both true q e = (refl, e)
both false q e = absurd (false≢true e)

pub record Passed (f : ℕ → Bool) (s : List ℕ) (ok : Bool) (i : ℕ) : Type 0 where
  pub decides : ok && every f (drop i s) ≡ every f s

pub start : (f : ℕ → Bool) (s : List ℕ) → Passed f s true 0
start f s = record { decides = refl }

module _ {f : ℕ → Bool} {s : List ℕ} {ok : Bool} {i : ℕ} (w : Passed f s ok i) where
  -- at the end
  pub ends : length s ≤ i → ok ≡ every f s
  ends h = sym (and-true ok) ∙ simp (done s i h) at w.decides

  -- one byte on
  pub on : i < length s → (r : Bool) → r ≡ f (get_or s i 0) → Passed f s (ok && r) (i + 1)
  on h r e = record { decides = simp (e, and_assoc) (simp (step s i h) at w.decides) }

-- what passes one test passes another that follows from it
pub weaker : (f g : ℕ → Bool) → ((b : ℕ) → f b ≡ true → g b ≡ true) → (s : List ℕ) → every f s ≡ true → every g s ≡ true
weaker f g k [] e = refl
weaker f g k (b ∷ bs) e =
    let h = both (f b) (every f bs) e in
    simp (k b h.0) (weaker f g k bs h.1)

-- the front and the rest
pub every_parts : (f : ℕ → Bool) (n : ℕ) (s : List ℕ) → every f s ≡ every f (take n s) && every f (drop n s)
every_parts f zero s = refl
every_parts f (suc n) [] = refl
every_parts f (suc n) (b ∷ bs) = simp (every_parts f n bs, and_assoc)
