-- The measure of the cycle of calls {search}: the number of elements.
-- Assumes nothing.
use Rattle.lists.proofs.+search.Given as goal

abbrev pub decreases-search : goal.decreases-search
decreases-search l = l.n
