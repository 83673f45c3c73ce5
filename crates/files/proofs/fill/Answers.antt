-- `files::fill` meets its contract: the numbers of the lines passed stand at the front of the list.
-- Assumes nothing.
use native.Mathlib.Omega.{arith}
use Rattle.files.proofs.Lines.{empty, as_long, full, fits, one_more}
use Rattle.files.proofs.fill.Goals as goal

pub loop-k-init : goal.loop-k-init
loop-k-init c = empty _ _ c.requires

pub overflow_cast-list : goal.overflow_cast-list
overflow_cast-list c = omega (arith, fits c.loop-k.invariant c.loop-k-test.true c.number.result c.number.ensures)

pub bounds-list-k : goal.bounds-list-k
bounds-list-k c = omega (arith, as_long c.loop-k.invariant)

pub loop-k-preserved : goal.loop-k-preserved
loop-k-preserved c = one_more c.loop-k.invariant c.loop-k-test.true c.number.result c.number.ensures

pub shape_of-list : goal.shape_of-list
shape_of-list c = as_long c.loop-k.invariant

pub returns : goal.returns
returns c = full c.loop-k.invariant c.loop-k-test.false
