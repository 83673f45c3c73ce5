-- The invariant and the measure of the loop of `trial::words::Case::fed`.
-- Assumes nothing.
use Rattle.std.proofs.Common.{◌≡◌, ◌+◌, ◌-◌, ◌/◌, ◌≤◌, length}
use Rattle.trial.proofs.words.Case.fed.Given as goal

abbrev pub invariant-loop-at : goal.invariant-loop-at
invariant-loop-at l = (length l.session ≡ length l.initial.session) × (length l.table ≡ length l.initial.table) × (l.at ≤ length l.message) × (l.i ≤ l.count)
    × (l.count ≡ length l.lengths / 4)

abbrev pub decreases-loop-at : goal.decreases-loop-at
decreases-loop-at l = (length l.message - l.at) + (l.count - l.i)
