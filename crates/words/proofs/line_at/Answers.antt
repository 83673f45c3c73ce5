-- `words::line_at` meets its contract: at each line the lines to go lead where all of them do.
-- Assumes nothing.
use Rattle.words.proofs.Lines.{begin, on, arrived}
use Rattle.words.proofs.line_at.Goals as goal

pub loop-init : goal.loop-init
loop-init c = begin c.args.table.now c.args.n

pub loop-preserved : goal.loop-preserved
loop-preserved c = on c.loop.invariant c.loop-test.true c.after_line-rest.ensures

pub returns : goal.returns
returns c = arrived c.loop.invariant c.loop-test.false c.first_line.ensures
