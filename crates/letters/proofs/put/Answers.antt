-- `letters::put` meets its contract: a field whose bytes are all shown as themselves is put as it is.
-- Assumes nothing.
use Rattle.letters.proofs.Shown.{own_put, own_long}
use Rattle.letters.proofs.put.Goals as goal

pub returns-then-not-put : goal.returns-then-not-put
returns-then-not-put c =
    let a = c.args in
    own_long a.s.now a.out.now c.is_own.ensures c.if-not-is_own.false (c.put.ensures.answer, c.put.ensures.bytes)
    c.if-not-put.true

pub returns : goal.returns
returns c =
    let a = c.args in
    own_put a.s.now a.out.now c.is_own.ensures c.if-not-is_own.false (c.put.ensures.answer, c.put.ensures.bytes)
    c.if-not-put.false
