-- `judge::item_read` meets its contract: the item has a byte of the table, or judging stops.
-- Assumes nothing.
use Rattle.judge.proofs.Tallies.{item_read_lem, item_over, countable}
use Prim.Native.Nat.{◌+◌}
use Rattle.judge.proofs.item_read.Goals as goal

pub counted-requires : goal.counted-requires
counted-requires c =
    let a = c.args in
    countable a.tally a.table.now a.day a.banks.now (a.tally.accepted.count + a.tally.refused.count + 1) a.r.now
    c.found_in-f.result c.requires c.found_in-f.ensures

pub returns : goal.returns
returns c =
    let a = c.args in
    item_read_lem a.day a.banks.now a.tally c.counted.result a.table.now a.r.now c.if-at-table.false c.found_in-f.result
    c.found_in-f.ensures c.counted.ensures

pub returns-then-at-table : goal.returns-then-at-table
returns-then-at-table c =
    let a = c.args in
    item_over a.day a.banks.now a.tally c.phased.result a.table.now a.r.now c.if-at-table.true c.phased.ensures
