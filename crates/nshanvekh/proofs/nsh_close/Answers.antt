-- `nshanvekh::nsh_close` meets its contract: a wrong size, refusal 5, or a closed session and what closing tells.
-- Assumes nothing.
use Rattle.nshanvekh.proofs.Sessions.{close_wrong, close_sizes, close_refused, close_told}
use Rattle.nshanvekh.proofs.nsh_close.Goals as goal

pub returns-then-not-session-numbers : goal.returns-then-not-session-numbers
returns-then-not-session-numbers c = close_wrong c.if-not-session-numbers.true

pub returns-then-n-eq5 : goal.returns-then-n-eq5
returns-then-n-eq5 c = close_refused c.if-not-session-numbers.false c.unpack-s.ensures c.close-c.ensures c.number_of-n.ensures c.if-n-eq5.true

pub tell-requires : goal.tell-requires
tell-requires c = close_sizes c.args.session.now c.args.numbers.now c.args.id.now c.if-not-session-numbers.false

pub returns : goal.returns
returns c = close_told c.if-not-session-numbers.false c.unpack-s.ensures c.close-c.ensures c.number_of-n.ensures c.if-n-eq5.false c.pack.ensures
    c.tell.ensures
