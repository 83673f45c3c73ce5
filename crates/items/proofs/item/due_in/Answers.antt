-- `items::item::due_in` meets its contract: the kind chooses.
-- Assumes nothing.
use borrow.Author.Tests.{eq-eqb, ne_eqb}
use Rattle.items.specs.Items.{due_in}
use Rattle.items.proofs.item.due_in.Goals as goal

pub returns-then-kind-eq-BESZED : goal.returns-then-kind-eq-BESZED
unfolding due_in
returns-then-kind-eq-BESZED c = rw (eq-eqb _ 1 c.if-kind-eq-BESZED.true) c.due_found.ensures

pub returns : goal.returns
unfolding due_in
returns c = rw (ne_eqb _ 1 c.if-kind-eq-BESZED.false)
