-- `fedjel::answer_of` meets its contract: the byte of the message that is position 68 of the item.
-- Assumes nothing.
use Rattle.answers.proofs.Form.{answer_lent}
use Rattle.fedjel.proofs.answer_of.Goals as goal

pub returns : goal.returns
returns c = answer_lent c.args.message.now c.args.k c.requires
