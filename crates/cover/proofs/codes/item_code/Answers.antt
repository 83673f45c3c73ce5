-- `cover::codes::item_code` meets its contract: the rows from the last to the first.
-- Assumes nothing.
use mathlib.Core.Path.{◌≡◌, refl, ap, ◌∙◌}
use mathlib.Core.Bool.{Bool, ◌||◌}
use Rattle.base.proofs.Tables.{row}
use Rattle.cover.specs.Foot.{is_type}
use Rattle.cover.specs.Codes.{is_typed, whole_rows}
use Rattle.cover.proofs.codes.item_code.Goals as goal

either : {a p : Bool} → a ≡ p → {b q : Bool} → b ≡ q → a || b ≡ p || q
either {a} {p} e {b} {q} f = ap (λ (x : Bool). x || b) e ∙ ap (λ (x : Bool). p || x) f

pub returns : goal.returns
unfolding is_type is_typed whole_rows
returns c =
    let two = row 34 c.is_digits.ensures refl c.unless-c.ensures in
    row 46 (either c.is_same.ensures c.is_same-2.ensures) two c.unless.ensures
