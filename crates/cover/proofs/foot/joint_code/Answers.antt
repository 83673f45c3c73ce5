-- `cover::foot::joint_code` meets its contract: the rows from the last to the first.
-- Assumes nothing.
use mathlib.Core.Path.{refl}
use Rattle.base.proofs.Tables.{row}
use Rattle.cover.specs.Foot.{joint_rows}
use Rattle.cover.proofs.foot.joint_code.Goals as goal

pub returns : goal.returns
unfolding joint_rows
returns c =
    let two = row 19 c.are_together.ensures refl c.unless-c.ensures in
    row 18 c.are_together-2.ensures two c.unless.ensures
