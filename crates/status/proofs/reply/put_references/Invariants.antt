-- The invariant of the loop of `status::reply::put_references`.
-- Assumes nothing.
use mathlib.Core.List.{List}
use Prim.Native.Nat.{ℕ, ◌*◌, ◌≤◌}
use lib.ListN.{length, take}
use Rattle.frame.specs.Records.{lengths, items_of}
use Rattle.status.specs.Records.{references}
use Rattle.status.specs.Writing.{Referable}
use Rattle.status.proofs.Put.{Put}
use Rattle.status.proofs.reply.put_references.Given as goal

pub record Writing (xs m cs : List ℕ) (n : ℕ) (ys : List ℕ) (i : ℕ) : Type 0 where
  pub room : n * 65 ≤ length xs
  pub ok : Referable m cs n
  pub put : Put xs (i * 65) (references 1 cs (take i (items_of lengths m))) ys

abbrev pub invariant-loop-i : goal.invariant-loop-i
invariant-loop-i l = Writing l.initial.out l.message l.codes l.n l.out l.i
