-- `nshanvekh::nsh_fedsta` meets its contract: a wrong size, else what writing tells.
-- Assumes nothing.
use Rattle.std.proofs.Common.{rules}
use Rattle.nshanvekh.proofs.CoverCalls.{fedsta_wrong, fedsta_told}
use Rattle.nshanvekh.proofs.nsh_fedsta.Goals as goal

pub returns-then-id-ne25 : goal.returns-then-id-ne25
returns-then-id-ne25 c = fedsta_wrong c.if-id-ne25.true

pub returns : goal.returns
returns c = fedsta_told c.if-id-ne25.false c.particulars-p.ensures (search rules) c.write.ensures c.number_of.ensures
