-- `cover::foot::added` meets its contract: the smaller of the sum and the limit.
-- Assumes nothing.
use Prim.Native.Nat.{◌+◌}
use mathlib.Core.Path.{◌∙◌}
use Rattle.cover.proofs.Sums.{capped_min}
use Rattle.cover.proofs.foot.added.Goals as goal

pub returns : goal.returns
returns c = c.min.ensures ∙ capped_min (c.args.a + c.args.b)
