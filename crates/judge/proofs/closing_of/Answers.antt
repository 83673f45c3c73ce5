-- `judge::closing_of` meets its contract: the tests in the order of the definition.
-- Assumes nothing.
use Rattle.judge.proofs.Tallies.{close_broken, close_letter, close_fault, close_right}
use Rattle.judge.proofs.closing_of.Goals as goal

pub returns-then-t-ne2 : goal.returns-then-t-ne2
returns-then-t-ne2 c = close_broken c.args.t c.blank.result c.requires c.if-t-ne2.true c.blank.ensures

pub returns-then-t : goal.returns-then-t
returns-then-t c = close_letter c.args.t c.blank-then-t.result c.if-t-ne2.false c.if-t.true c.blank-then-t.ensures

pub returns-then-t-ne0 : goal.returns-then-t-ne0
returns-then-t-ne0 c = close_fault c.args.t c.blank-then-t-ne0.result c.if-t-ne2.false c.if-t.false c.if-t-ne0.true c.blank-then-t-ne0.ensures

pub returns : goal.returns
returns c = close_right c.args.t c.if-t-ne2.false c.if-t.false c.if-t-ne0.false
