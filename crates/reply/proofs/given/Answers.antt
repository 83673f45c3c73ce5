-- `reply::given` is safe: the banks lie within the list.
-- Assumes nothing.
use Rattle.files.proofs.Within.{banks}
use Rattle.reply.proofs.given.Goals as goal

pub slice_bounds-list-end : goal.slice_bounds-list-end
slice_bounds-list-end c = (banks c.read.ensures c.in-Ok.is).low

pub slice_bounds-lists-end : goal.slice_bounds-lists-end
slice_bounds-lists-end c = (banks c.read.ensures c.in-Ok.is).long
