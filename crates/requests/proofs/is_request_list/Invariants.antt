-- The invariant of the loop of `requests::is_request_list`.
-- Assumes nothing.
use Rattle.requests.proofs.Twins.{Walked}
use Rattle.requests.proofs.is_request_list.Given as goal

abbrev pub invariant-loop-k : goal.invariant-loop-k
invariant-loop-k l = Walked l.list l.k
