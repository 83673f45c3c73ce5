-- `nshanvekh::nsh_open` meets its contract: a wrong size, else the session that opening gives, packed.
-- Assumes nothing.
use Rattle.nshanvekh.proofs.Sessions.{open_wrong, open_right}
use Rattle.nshanvekh.proofs.nsh_open.Goals as goal

pub returns-then-session-ne-BYTES : goal.returns-then-session-ne-BYTES
returns-then-session-ne-BYTES c = open_wrong c.if-session-ne-BYTES.true

pub returns : goal.returns
returns c = open_right c.if-session-ne-BYTES.false c.open-t.ensures c.pack.ensures c.number_of.ensures
