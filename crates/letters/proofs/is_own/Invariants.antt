-- The invariant of the loop of `letters::is_own`.
-- Assumes nothing.
use Rattle.base.proofs.Every.{Passed}
use Rattle.letters.specs.Letters.{own}
use Rattle.letters.proofs.is_own.Given as goal

abbrev pub invariant-loop-b : goal.invariant-loop-b
invariant-loop-b l = Passed own l.s l.ok l.b-index
