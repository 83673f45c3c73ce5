-- A byte that is a digit is 48 to 57.
-- Assumes nothing.
use mathlib.Core.Path.{◌≡◌}
use mathlib.Core.Bool.{true}
use Prim.Native.Nat.{ℕ, ◌+◌, ◌≤◌}
use lib.Dec.{leb}
use borrow.Author.Tests.{leb-true, le-leb}
use native.Mathlib.Omega.{arith}
use Rattle.base.proofs.Every.{both}
use Rattle.digits.specs.Digits.{digit}

pub record Digit (b : ℕ) : Type 0 where
  pub from : 48 ≤ b
  pub upto : b ≤ 57

pub is_digit : (b : ℕ) → digit b ≡ true → Digit b
is_digit b e =
    let h = both (leb 48 b) (leb b 57) e in
    record { from = leb-true 48 b h.0; upto = leb-true b 57 h.1 }

pub a_digit : (n : ℕ) → n ≤ 9 → digit (48 + n) ≡ true
a_digit n h = simp (le-leb 48 (48 + n) (omega arith), le-leb (48 + n) 57 (omega arith))
