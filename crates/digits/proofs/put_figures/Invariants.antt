-- The invariant of the loop of `digits::put_figures`.
-- Assumes nothing.
use mathlib.Core.Path.{◌≡◌}
use mathlib.Core.List.{List, ◌++◌}
use Prim.Native.Nat.{ℕ, ◌≤◌}
use lib.ListN.{length, drop}
use Rattle.digits.specs.Digits.{figures}
use Rattle.digits.proofs.put_figures.Given as goal

pub record Put (out₀ : List ℕ) (w n : ℕ) (out : List ℕ) (left i : ℕ) : Type 0 where
  pub long : length out ≡ length out₀
  pub room : w ≤ length out₀
  pub stands : figures i left ++ drop i out ≡ figures w n ++ drop w out₀

abbrev pub invariant-loop-i : goal.invariant-loop-i
invariant-loop-i l = Put l.initial.out l.w l.n l.out l.left l.i
