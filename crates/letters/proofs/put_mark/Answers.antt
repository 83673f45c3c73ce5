-- `letters::put_mark` meets its contract: four bytes, one after the other.
-- Assumes nothing.
use Rattle.letters.proofs.Shown.{mark_put}
use Rattle.letters.proofs.put_mark.Goals as goal

pub returns : goal.returns
returns c =
    mark_put c.requires c.put_one-i.ensures c.put_one-i-2.ensures c.args.b c.hex.ensures c.hex-2.ensures c.put_one-i-3.ensures
    c.put_one.ensures
