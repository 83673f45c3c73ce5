-- A field of one byte, and one of two.
-- Assumes nothing.
use mathlib.Core.Path.{◌≡◌, refl}
use mathlib.Core.Bool.{◌&&◌, and-true, and-false}
use mathlib.Core.List.{List, [], ◌∷◌}
use Prim.Native.Nat.{ℕ, ◌<◌}
use lib.ListN.{length, get_or, take, drop}
use native.Mathlib.Omega.{arith}
use lib.Dec.{eqb}
use borrow.Author.Tests.{ne_eqb}
use Rattle.base.specs.Bytes.{same}
use Rattle.base.proofs.Walk.{step}

pub one : (s : List ℕ) (i : ℕ) → i < length s → take 1 (drop i s) ≡ get_or s i 0 ∷ []
one s i h = rw (step s i h)

pub two : (a b : ℕ) (s : List ℕ) → same s (a ∷ b ∷ []) ≡ eqb (length s) 2 && (eqb (get_or s 0 0) a && eqb (get_or s 1 0) b)
two a b [] = refl
two a b (x ∷ []) = and-false (eqb x a)
two a b (x ∷ y ∷ []) = simp and-true
two a b (x ∷ y ∷ z ∷ zs) = simp (and-false, and-false, ne_eqb (length (x ∷ y ∷ z ∷ zs)) 2 (λ e. omega arith))
