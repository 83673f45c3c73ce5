-- The invariant of the loop of `digits::number`.
-- Assumes nothing.
use Rattle.digits.proofs.Value.{Read}
use Rattle.digits.proofs.number.Given as goal

abbrev pub invariant-loop-b : goal.invariant-loop-b
invariant-loop-b l = Read l.s l.n l.b-index
