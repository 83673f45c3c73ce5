-- `nshanvekh::nsh_judge` meets its contract: a wrong size, else what judging tells.
-- Assumes nothing.
use Rattle.nshanvekh.proofs.Messages.{sizes, judge_wrong, judge_told}
use Rattle.lent.specs.Lent.{Lent, lent}
use Rattle.nshanvekh.proofs.nsh_judge.Goals.{Start}
use Rattle.nshanvekh.proofs.nsh_judge.Goals as goal

-- what is lent
abbrev given : Start → Lent
given c = lent c.args.day c.args.banks.now c.args.known.now c.args.barred.now

pub returns-then-not-numbers-id : goal.returns-then-not-numbers-id
returns-then-not-numbers-id c = judge_wrong c.if-not-numbers-id.true

pub tell-requires : goal.tell-requires
tell-requires c = sizes c.args.numbers.now 7 c.args.id.now c.if-not-numbers-id.false

pub returns : goal.returns
returns c =
    let start = (goal.at.returns c).Start in
    judge_told {l = given start} c.if-not-numbers-id.false c.judge.ensures c.tell.ensures
