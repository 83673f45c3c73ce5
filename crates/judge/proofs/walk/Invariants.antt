-- The invariant and the measure of the loop of `judge::walk`.
-- Assumes nothing.
use mathlib.Core.List.{[]}
use lib.ListN.{length}
use Rattle.lent.specs.Lent.{lent_in}
use Rattle.kinds.specs.Codes.{rules}
use Rattle.judge.specs.Session.{state_with}
use Rattle.judge.proofs.Turn.{Walk}
use Rattle.judge.proofs.walk.Given as goal

abbrev pub invariant-loop-t : goal.invariant-loop-t
invariant-loop-t l =
    Walk (rules (lent_in l.day l.lists)) (state_with l.initial.t [] l.initial.table) l.piece l.rest l.t l.table

abbrev pub decreases-loop-t : goal.decreases-loop-t
decreases-loop-t l = length l.rest
