-- `judge::foot_read` meets its contract: with no item before it, that is a break.
-- Assumes nothing.
use Rattle.judge.proofs.Tallies.{foot_first, foot_read_lem}
use Rattle.judge.proofs.foot_read.Goals as goal

pub returns-then-items-eq0 : goal.returns-then-items-eq0
returns-then-items-eq0 c =
    let a = c.args in
    foot_first a.tally a.r.now c.if-items-eq0.true c.phased.result c.phased.ensures

pub returns : goal.returns
returns c =
    let a = c.args in
    foot_read_lem a.tally a.r.now c.if-items-eq0.false c.earlier.result c.code_in.result c.code_in.ensures c.earlier.ensures
