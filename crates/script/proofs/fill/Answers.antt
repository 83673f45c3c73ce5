-- `script::fill` meets its contract: the numbers passed stand at the front of the list.
-- Assumes nothing.
use Rattle.std.proofs.Common.{rules}
use Rattle.script.proofs.Numbers.{empty, one_more}
use Rattle.script.proofs.fill.Goals as goal

pub loop-k-init : goal.loop-k-init
loop-k-init c = empty _ _

pub loop-k-preserved : goal.loop-k-preserved
loop-k-preserved c = one_more c.loop-k.invariant (search rules) (search rules) c.field.result c.field.ensures
