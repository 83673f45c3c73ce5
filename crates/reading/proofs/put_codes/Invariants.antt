-- The invariant of the loop of `reading::put_codes`.
-- Assumes nothing.
use mathlib.Core.List.{List}
use mathlib.Core.Path.{◌≡◌}
use Prim.Native.Nat.{ℕ}
use lib.ListN.{length}
use Rattle.base.specs.Bytes.{over}
use Rattle.reading.proofs.References.{first_codes}
use Rattle.reading.proofs.put_codes.Given as goal

pub record Put (x t : List ℕ) (u : List ℕ) (i : ℕ) : Type 0 where
  pub long : length u ≡ length t
  pub is : u ≡ over t 0 (first_codes x i)

abbrev pub invariant-loop-i : goal.invariant-loop-i
invariant-loop-i l = Put l.x l.initial.table l.table l.i
