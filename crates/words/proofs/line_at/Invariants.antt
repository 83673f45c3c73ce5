-- The invariant of the loop of `words::line_at`.
-- Assumes nothing.
use Rattle.words.proofs.Lines.{Going}
use Rattle.words.proofs.line_at.Given as goal

abbrev pub invariant-loop : goal.invariant-loop
invariant-loop l = Going l.table l.n l.rest l.counter
