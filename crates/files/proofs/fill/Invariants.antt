-- The invariant of the loop of `files::fill`.
-- Assumes nothing.
use Rattle.files.proofs.Lines.{Filled}
use Rattle.files.proofs.fill.Given as goal

abbrev pub invariant-loop-k : goal.invariant-loop-k
invariant-loop-k l = Filled l.initial.list l.s l.list l.k
