-- The invariant of the loop of `cover::foot::totals`.
-- Assumes nothing.
use Rattle.cover.proofs.Sums.{Summed}
use Rattle.cover.proofs.foot.totals.Given as goal

abbrev pub invariant-loop-i : goal.invariant-loop-i
invariant-loop-i l = Summed l.last l.items l.count l.sum l.i-iterator
