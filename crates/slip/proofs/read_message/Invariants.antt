-- The invariant of the loop of `slip::read_message`.
-- Assumes nothing.
use mathlib.Core.Path.{◌≡◌}
use lib.ListN.{length}
use Rattle.lent.specs.Lent.{listed_in}
use Rattle.slips.specs.Message.{FedBy}
use Rattle.slip.proofs.read_message.Given as goal

abbrev pub invariant-loop : goal.invariant-loop
invariant-loop g l =
    (length l.space ≡ length l.initial.space) × (length l.table ≡ length l.initial.table)
    × FedBy l.initial.t (listed_in l.lists) l.initial.table l.t l.table
