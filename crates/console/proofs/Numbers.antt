-- Nine digits stand for less than a u32 holds.
-- Assumes nothing.
use Rattle.std.proofs.Common.{ℕ, ◌^◌, ◌<◌, ◌≤◌, List, length, arith}
use native.Mathlib.Nat.{pow-le-pow_right}
use lib.Dec.{lit<}
use Rattle.digits.specs.Digits.{number_of}
use Rattle.digits.proofs.Value.{number_lt}

pub small : (s : List ℕ) → length s ≤ 9 → number_of s < 4294967296
small s h =
    let p : 10 ^ length s ≤ 10 ^ 9 = pow-le-pow_right (lit< tt) h in
    omega (arith, number_lt s)
