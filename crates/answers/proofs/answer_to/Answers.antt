-- `answers::answer_to` meets its contract: the items' bytes are the message's items.
-- Assumes nothing.
use mathlib.Core.Path.{ap, ◌∙◌}
use mathlib.Core.List.{List}
use Prim.Native.Nat.{ℕ}
use Rattle.std.specs.Prelude.{position}
use Rattle.answers.specs.Fedjel.{items_in}
use Rattle.answers.specs.Answers.{rightly}
use Rattle.answers.proofs.Form.{items}
use Rattle.answers.proofs.answer_to.Goals as goal

pub returns : goal.returns
returns c =
    let a = c.args in
    c.first_right.ensures
    ∙ ap (λ (b : List ℕ). position (rightly a.request.now) (items_in b)) c.items.ensures
    ∙ ap (position (rightly a.request.now)) (items a.message.now)
