-- `readback::print` is safe: the lines lie within the output.
-- Assumes nothing.
use Rattle.base.proofs.Written.{text}
use Rattle.readback.proofs.print.Goals as goal

pub put_items-end-requires : goal.put_items-end-requires
put_items-end-requires g c = (text c.put_status-n.ensures).low
