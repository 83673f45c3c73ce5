-- `console::refuse` is safe: the line lies within its space.
-- Assumes nothing.
use Rattle.base.proofs.Written.{text}
use Rattle.console.proofs.refuse.Goals as goal

pub slice_bounds-line-end : goal.slice_bounds-line-end
slice_bounds-line-end g c = (text c.put_refusal-n.ensures).low
