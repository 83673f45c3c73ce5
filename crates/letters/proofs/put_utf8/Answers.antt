-- `letters::put_utf8` meets its contract: two bytes, one after the other.
-- Assumes nothing.
use Rattle.letters.proofs.Shown.{two_put}
use Rattle.letters.proofs.put_utf8.Goals as goal

pub returns : goal.returns
returns c = two_put c.args.out.now c.args.at c.args.n c.requires.0 c.if-n-lt128.false c.put_one-i.ensures c.put_one-2.ensures
