-- `judge::head_read` meets its contract.
-- Assumes nothing.
use Rattle.lent.specs.Lent.{lent_in}
use Rattle.judge.proofs.Tallies.{head_read_lem}
use Rattle.judge.proofs.head_read.Goals as goal

pub returns : goal.returns
returns c =
    let k = c.told_of in
    let f = c.found_in-f in
    let a = c.args in
    head_read_lem (lent_in a.day a.lists.now) a.r.now a.tally f.result k.result c.identifier.result
    f.ensures k.ensures c.identifier.ensures
