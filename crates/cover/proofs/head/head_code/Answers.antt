-- `cover::head::head_code` meets its contract: the rows from the last to the first.
-- Assumes nothing.
use mathlib.Core.Path.{◌≡◌, refl, ap, ◌∙◌}
use mathlib.Core.Bool.{Bool, ◌&&◌}
use Rattle.base.proofs.Tables.{row}
use Rattle.cover.specs.Head.{head_rows}
use Rattle.cover.proofs.head.head_code.Goals as goal

both_are : {a p : Bool} → a ≡ p → {b q : Bool} → b ≡ q → a && b ≡ p && q
both_are {a} {p} e {b} {q} f = ap (λ (x : Bool). x && b) e ∙ ap (λ (x : Bool). p && x) f

pub returns : goal.returns
unfolding head_rows
returns c =
    let seven = row 7 c.is_number.ensures refl c.unless-c.ensures in
    let six = row 2 c.is_digits.ensures seven c.unless-c-2.ensures in
    let five = row 44 c.is_sent.ensures six c.unless-c-3.ensures in
    let bank = both_are c.is_digits-2.ensures c.has_bank.ensures in
    let four = row 43 bank five c.unless-c-4.ensures in
    let three = row 42 c.is_digits-3.ensures four c.unless-c-5.ensures in
    let two = row 9 c.is_same.ensures three c.unless-c-6.ensures in
    row 41 c.is_same-2.ensures two c.unless.ensures
