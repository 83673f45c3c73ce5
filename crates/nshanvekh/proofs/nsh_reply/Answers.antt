-- `nshanvekh::nsh_reply` meets its contract: a wrong size, else what writing tells.
-- Assumes nothing.
use Rattle.nshanvekh.proofs.Messages.{reply_wrong, reply_told}
use Rattle.lent.specs.Lent.{Lent, lent}
use Rattle.nshanvekh.proofs.nsh_reply.Goals.{Start}
use Rattle.nshanvekh.proofs.nsh_reply.Goals as goal

-- what is lent
abbrev given : Start → Lent
given c = lent c.args.day c.args.banks.now c.args.known.now c.args.barred.now

pub returns-then-numbers-ne1 : goal.returns-then-numbers-ne1
returns-then-numbers-ne1 c = reply_wrong c.if-numbers-ne1.true

pub tell_reply-requires : goal.tell_reply-requires
tell_reply-requires c = c.if-numbers-ne1.false

pub returns : goal.returns
returns c =
    let start = (goal.at.returns c).Start in
    reply_told {l = given start} c.if-numbers-ne1.false c.particulars-p.ensures c.write.ensures c.tell_reply.ensures
