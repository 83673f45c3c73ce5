-- The invariant of the loop of `cdv::any`.
-- Assumes nothing.
use mathlib.Core.Path.{◌≡◌}
use mathlib.Core.List.{List}
use Prim.Native.Nat.{ℕ, ◌+◌, ◌%◌, ◌<◌}
use lib.ListN.{drop}
use Rattle.cdv.specs.Check.{weighed, cdv}
use Rattle.cdv.proofs.any.Given as goal

pub record Eights (s : List ℕ) (sum i : ℕ) : Type 0 where
  pub whole : (sum + weighed cdv i (drop i s)) % 10 ≡ weighed cdv 0 s % 10
  pub cycle : i % 4 ≡ 0
  pub small : sum < 720

abbrev pub invariant-loop-i : goal.invariant-loop-i
invariant-loop-i l = Eights l.s l.sum l.i
