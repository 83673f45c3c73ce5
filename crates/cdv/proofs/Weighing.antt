-- The weighted sum, for any weights and any number of digits: the digit at a place, or none behind the end, and what is left after it.
-- Assumes nothing.
use mathlib.Core.Path.{◌≡◌, refl, ap}
use mathlib.Core.Bool.{true}
use mathlib.Core.List.{List, [], ◌∷◌}
use Prim.Native.Nat.{ℕ, zero, suc, ◌+◌, ◌-◌, ◌*◌, ◌%◌, ◌≤◌}
use native.Mathlib.Omega.{arith}
use lib.Dec.{eqb, lit≤}
use lib.ListN.{length, get_or, drop}
use Rattle.base.proofs.Walk.{done}
use Rattle.base.proofs.Every.{both}
use Rattle.digits.specs.Digits.{digit, is_digits}
use Rattle.digits.proofs.Digit.{Digit, is_digit}
use Rattle.cdv.specs.Check.{repeated, weighed, cdv, satisfies}

none : (i : ℕ) → drop {A = ℕ} i [] ≡ []
none zero = refl
none (suc i) = refl

step : (w : ℕ → ℕ) (s : List ℕ) (i j : ℕ) → weighed w j (drop i s) ≡ w j * (get_or s i 48 - 48) + weighed w (j + 1) (drop (suc i) s)
step w [] i j = simp (none i) (omega arith)
step w (b ∷ bs) zero j = refl
step w (b ∷ bs) (suc i) j = step w bs i j

-- one digit, with the weight at its place in the cycle, and those after it
pub next : (ws s : List ℕ) (i j k : ℕ) → i + 1 ≡ j → i % length ws ≡ k
    → weighed (repeated ws) i (drop i s) ≡ get_or ws k 0 * (get_or s i 48 - 48) + weighed (repeated ws) j (drop j s)
next ws s i j k p e =
    let q : suc i ≡ j = omega arith in
    simp (e, p, q) at (step (repeated ws) s i i)

-- at the end nothing is left
pub over : (w : ℕ → ℕ) (s : List ℕ) (i j : ℕ) → length s ≤ i → weighed w j (drop i s) ≡ 0
over w s i j h = ap (weighed w j) (done s i h)

-- the byte at any place is a digit, behind the end too
pub digit_at : (s : List ℕ) (i : ℕ) → is_digits s ≡ true → Digit (get_or s i 48)
digit_at [] i e = record { from = lit≤ tt; upto = lit≤ tt }
digit_at (b ∷ bs) zero e = is_digit b (both (digit b) (is_digits bs) e).0
digit_at (b ∷ bs) (suc i) e = digit_at bs i (both (digit b) (is_digits bs) e).1

-- what satisfies the check digit is digits
pub satisfying_digits : (s : List ℕ) → satisfies s ≡ true → is_digits s ≡ true
unfolding satisfies
satisfying_digits s e = (both (is_digits s) (eqb (weighed cdv 0 s % 10) 0) e).0

-- digits satisfy it by their sum
pub by_sum : (s : List ℕ) → is_digits s ≡ true → eqb (weighed cdv 0 s % 10) 0 ≡ satisfies s
unfolding satisfies
by_sum s e = simp e
