-- `slip::judged` meets its contract: what is told is the answer of the session that the pieces led to.
-- Assumes nothing.
use Rattle.slips.specs.Message.{zeros}
use Rattle.slips.proofs.Told.{answers}
use borrow.Author.Rules.{rules}
use Rattle.slip.proofs.judged.Goals as goal

pub returns : goal.returns
unfolding zeros
returns g c = answers c.args.day c.open-start.ensures c.read_message-t.ensures c.answer.ensures (search rules)
