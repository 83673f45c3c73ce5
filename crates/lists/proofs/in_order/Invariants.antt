-- The invariant of the loop of `lists::in_order`: what the numbers passed decided, with those that are left, decides as the whole does.
-- Assumes nothing.
use Rattle.std.proofs.Common.{◌≡◌, ◌&&◌, drop}
use Rattle.lists.specs.Banks.{above}
use Rattle.lists.proofs.in_order.Given as goal

abbrev pub invariant-loop-x : goal.invariant-loop-x
invariant-loop-x l = l.ok && above l.prev (drop l.x-index l.rest) ≡ above l.initial.prev l.rest
