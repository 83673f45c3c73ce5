-- `fedjel::put_verdict` is safe: the lines lie within their space.
-- Assumes nothing.
use Rattle.base.proofs.Written.{text}
use Rattle.fedjel.proofs.put_verdict.Goals as goal

pub slice_bounds-out-end : goal.slice_bounds-out-end
slice_bounds-out-end g c = (text c.put_verdict-n.ensures).low

pub slice_bounds-put-end : goal.slice_bounds-put-end
slice_bounds-put-end g c = (text c.put_verdict-n.ensures).long
