-- The invariant of the loop of `script::fill`.
-- Assumes nothing.
use Rattle.script.proofs.Numbers.{Filled}
use Rattle.script.proofs.fill.Given as goal

abbrev pub invariant-loop-k : goal.invariant-loop-k
invariant-loop-k l = Filled l.initial.list l.s l.list l.k
