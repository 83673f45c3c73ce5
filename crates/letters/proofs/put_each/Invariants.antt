-- The invariant of the loop of `letters::put_each`.
-- Assumes nothing.
use Rattle.letters.proofs.Shown.{Putting}
use Rattle.letters.proofs.put_each.Given as goal

abbrev pub invariant-loop-b : goal.invariant-loop-b
invariant-loop-b l = Putting l.initial.out l.s l.out l.b-index l.at
