-- `judge::counted` meets its contract.
-- Assumes nothing.
use Rattle.judge.proofs.Tallies.{item_counted_lem}
use Rattle.judge.proofs.counted.Goals as goal

pub returns : goal.returns
returns c =
    item_counted_lem c.args.tally c.args.f c.earlier.result c.more-t.result c.more-t-2.result c.one_more.result
    c.earlier.ensures c.more-t.ensures c.more-t-2.ensures c.one_more.ensures
