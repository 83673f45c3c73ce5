-- The size of a field's number.
-- Assumes nothing.
use mathlib.Core.List.{List}
use Prim.Native.Nat.{ℕ, ◌^◌, ◌≤◌, ◌<◌}
use native.Mathlib.Nat.{pow-le-pow_right}
use native.Mathlib.Omega.{arith}
use lib.Dec.{lit<}
use lib.ListN.{length, take, length-take}
use Rattle.digits.specs.Digits.{number_of}
use Rattle.digits.proofs.Value.{number_lt}

-- a field of n bytes stands for less than ten to n
pub small : (n : ℕ) (s : List ℕ) → number_of (take n s) < 10 ^ n
small n s =
    let l : length (take n s) ≤ n = omega (arith, length-take n s) in
    let p : 10 ^ length (take n s) ≤ 10 ^ n = pow-le-pow_right (lit< tt) l in
    omega (arith, number_lt (take n s))
