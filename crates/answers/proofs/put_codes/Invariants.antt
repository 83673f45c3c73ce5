-- The invariant of the loop of `answers::put_codes`.
-- Assumes nothing.
use Rattle.answers.proofs.Codes.{Coded}
use Rattle.answers.proofs.put_codes.Given as goal

abbrev pub invariant-loop-k : goal.invariant-loop-k
invariant-loop-k l = Coded l.list l.message l.initial.table l.table l.faulty l.k
