-- `judge::walk` meets its contract: each turn judges a whole record, and what is left begins none.
-- Assumes nothing.
use native.Mathlib.Omega.{arith}
use Rattle.lent.specs.Lent.{lent_in}
use Rattle.kinds.proofs.Instance.{sound}
use Rattle.judge.proofs.Turn.{turn_least, turn_whole, turn_on}
use Rattle.judge.proofs.walk.Goals as goal

pub record_read-t-requires-clause-x_len : goal.record_read-t-requires-clause-x_len
record_read-t-requires-clause-x_len c = turn_whole c.loop-t.invariant c.loop-t-test.true c.size_of.ensures c.in-Some.ensures.cases

pub loop-t-smaller : goal.loop-t-smaller
loop-t-smaller c =
    let d = c.in-Some.ensures.cases in
    omega (arith, turn_least c.loop-t.invariant c.loop-t-test.true c.size_of.ensures d, d.4)

pub loop-t-preserved : goal.loop-t-preserved
loop-t-preserved c =
    turn_on c.loop-t.invariant c.loop-t-test.true c.size_of.ensures c.in-Some.ensures.cases (sound (lent_in c.args.day c.args.lists.now))
    c.record_read-t.ensures
