-- `cover::foot::typed_code` meets its contract: the rows from the last to the first.
-- Assumes nothing.
use mathlib.Core.Path.{refl}
use Rattle.base.proofs.Tables.{row}
use Rattle.cover.specs.Foot.{typed_rows}
use Rattle.cover.proofs.foot.typed_code.Goals as goal

pub returns : goal.returns
unfolding typed_rows
returns c =
    let four = row 19 c.is_number.ensures refl c.unless-c.ensures in
    let three = row 18 c.is_number-2.ensures four c.unless-c-2.ensures in
    let two = row 19 c.is_number-3.ensures three c.unless-c-3.ensures in
    row 18 c.is_number-4.ensures two c.unless.ensures
