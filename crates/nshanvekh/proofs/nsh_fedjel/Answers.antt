-- `nshanvekh::nsh_fedjel` meets its contract: a wrong size, else what judging tells.
-- Assumes nothing.
use Rattle.nshanvekh.proofs.CoverCalls.{fedjel_wrong, fedjel_told}
use Rattle.nshanvekh.proofs.nsh_fedjel.Goals as goal

pub returns-then-numbers-ne2 : goal.returns-then-numbers-ne2
returns-then-numbers-ne2 c = fedjel_wrong c.if-numbers-ne2.true

pub tell_fedjel-requires : goal.tell_fedjel-requires
tell_fedjel-requires c = c.if-numbers-ne2.false

pub returns : goal.returns
returns c = fedjel_told c.if-numbers-ne2.false c.judge.ensures c.tell_fedjel.ensures
