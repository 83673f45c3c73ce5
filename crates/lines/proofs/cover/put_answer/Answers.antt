-- `lines::cover::put_answer` meets its contract: the line of a standing answer where both codes are 0, else the line of an item.
-- Assumes nothing.
use mathlib.Core.Path.{◌≡◌}
use mathlib.Core.Bool.{true, false, ◌&&◌}
use mathlib.Core.List.{List}
use Prim.Native.Nat.{ℕ}
use lib.Dec.{eqb}
use Rattle.base.specs.Put.{Written}
use Rattle.lines.specs.Facts.{item_line}
use Rattle.lines.specs.Cover.{standing_line, answer_line}
use Rattle.lines.proofs.cover.put_answer.Goals as goal

module _ (x : List ℕ) (message place code answer : ℕ) {r : ℕ} {y : List ℕ} where
  stands : eqb message 0 && eqb code 0 ≡ true → Written (standing_line place answer) x r y → Written (answer_line message place code answer) x r y
  unfolding answer_line
  stands e w = rw e w

  other : eqb message 0 && eqb code 0 ≡ false → Written (item_line place code) x r y → Written (answer_line message place code answer) x r y
  unfolding answer_line
  other e w = rw e w

pub returns-then-message-code : goal.returns-then-message-code
returns-then-message-code c =
    let a = c.args in
    stands a.out.now a.message a.place a.code a.answer c.if-message-code.true c.put_standing.ensures

pub returns : goal.returns
returns c =
    let a = c.args in
    other a.out.now a.message a.place a.code a.answer c.if-message-code.false c.put_item.ensures
