-- `trial::slip::answered` is safe, and its answer counts bytes of the output.
-- Assumes nothing.
use Rattle.base.proofs.Written.{text}
use Rattle.files.proofs.Within.{banks}
use Rattle.trial.proofs.slip.answered.Goals as goal

pub slice_bounds-list-end : goal.slice_bounds-list-end
slice_bounds-list-end c = (banks c.read.ensures c.in-Ok.is).low

pub slice_bounds-lists-end : goal.slice_bounds-lists-end
slice_bounds-lists-end c = (banks c.read.ensures c.in-Ok.is).long

pub returns-in-Err : goal.returns-in-Err
returns-in-Err c =
    let f = text c.put_refusal.ensures in (f.low, f.long)
