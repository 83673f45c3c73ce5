-- The invariant of the loop of `reading::zeros_in`.
-- Assumes nothing.
use mathlib.Core.List.{List}
use mathlib.Core.Bool.{Bool}
use mathlib.Core.Path.{◌≡◌}
use Prim.Native.Nat.{ℕ}
use Rattle.reading.proofs.References.{first, first_codes}
use Rattle.reading.specs.Reading.{zeros_in, references_right}
use Rattle.reading.proofs.zeros_in.Given as goal

pub record Seen (x : List ℕ) (right : Bool) (zeros i : ℕ) : Type 0 where
  pub rights : right ≡ references_right 1 (first x i)
  pub counts : zeros ≡ zeros_in (first_codes x i)

abbrev pub invariant-loop-i : goal.invariant-loop-i
invariant-loop-i l = Seen l.x l.right l.zeros l.i
