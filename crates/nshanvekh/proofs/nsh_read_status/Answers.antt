-- `nshanvekh::nsh_read_status` meets its contract: a wrong size, else what reading tells.
-- Assumes nothing.
use Rattle.nshanvekh.proofs.Messages.{sizes, status_wrong, status_told}
use Rattle.nshanvekh.proofs.nsh_read_status.Goals as goal

pub returns-then-not-numbers-id : goal.returns-then-not-numbers-id
returns-then-not-numbers-id c = status_wrong c.if-not-numbers-id.true

pub tell_status-requires : goal.tell_status-requires
tell_status-requires c = sizes c.args.numbers.now 10 c.args.id.now c.if-not-numbers-id.false

pub returns : goal.returns
returns c = status_told c.if-not-numbers-id.false c.read_status.ensures c.tell_status.ensures
