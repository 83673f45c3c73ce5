-- `packed::put_eights` meets its contract: the numbers that are left over what stands are all of them over what stood.
-- Assumes nothing.
use Rattle.packed.proofs.Little.{puts_on, puts_ends}
use Rattle.packed.proofs.put_eights.Goals as goal

pub loop-i-preserved : goal.loop-i-preserved
loop-i-preserved c = puts_on c.loop-i.invariant c.loop-i-test.true _ c.to_le_bytes.ensures (c.put_at.ensures.place, c.put_at.ensures.bytes)

pub returns : goal.returns
returns c = puts_ends c.loop-i.invariant c.loop-i-test.false
