-- `trial::slip::judged` is safe, and its answer counts bytes of the output.
-- Assumes nothing.
use Rattle.base.proofs.Written.{text}
use Rattle.trial.proofs.slip.judged.Goals as goal

pub returns : goal.returns
returns c =
    let f = text c.answer.ensures in (f.low, f.long)
