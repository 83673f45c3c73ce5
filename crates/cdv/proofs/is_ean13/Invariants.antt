-- The invariant of the loop of `cdv::is_ean13`.
-- Assumes nothing.
use mathlib.Core.Path.{◌≡◌}
use mathlib.Core.List.{List}
use Prim.Native.Nat.{ℕ, ◌+◌, ◌*◌, ◌%◌, ◌≤◌}
use lib.ListN.{drop}
use Rattle.cdv.specs.Check.{weighed, gs1}
use Rattle.cdv.proofs.is_ean13.Given as goal

pub record Twos (s : List ℕ) (sum i : ℕ) : Type 0 where
  pub whole : sum + weighed gs1 i (drop i s) ≡ weighed gs1 0 s
  pub cycle : i % 2 ≡ 0
  pub last : i ≤ 14
  pub small : sum ≤ 18 * i

abbrev pub invariant-loop-i : goal.invariant-loop-i
invariant-loop-i l = Twos l.s l.sum l.i
