-- `cover::codes::is_plain` meets its contract: head, items, foot.
-- Assumes nothing.
use mathlib.Core.Path.{sym, ap, ◌∙◌}
use Rattle.base.specs.Groups.{all}
use Rattle.text.specs.Text.{is_plain}
use Rattle.answers.specs.Fedjel.{items_in}
use Rattle.answers.proofs.Form.{items}
use Rattle.cover.proofs.Parts.{head_not_plain, items_not_plain, foot_plain}
use Rattle.cover.proofs.codes.is_plain.Goals.{then-is_plain, else-is_plain}
use Rattle.cover.proofs.codes.is_plain.Goals as goal

pub returns-then-all_plain : goal.returns-then-all_plain
returns-then-all_plain c =
    let m = c.args.f.now.message.now in
    let h = c.is_plain.ensures ∙ ap is_plain c.head.ensures in
    elim c.if-is_plain.branch [
      | then-is_plain w ↦
          foot_plain m h w.if-is_plain.true (w.all_plain.ensures ∙ ap (all is_plain) (ap items_in w.items.ensures ∙ items m))
          (sym w.value-is ∙ c.if-all_plain.true) (c.is_plain-then-all_plain.ensures ∙ ap is_plain c.foot.ensures)
      | else-is_plain w ↦ cc
    ]

pub returns-else-all_plain : goal.returns-else-all_plain
returns-else-all_plain c =
    let m = c.args.f.now.message.now in
    let h = c.is_plain.ensures ∙ ap is_plain c.head.ensures in
    elim c.if-is_plain.branch [
      | then-is_plain w ↦
          w.value-is
          ∙ items_not_plain m h w.if-is_plain.true (w.all_plain.ensures ∙ ap (all is_plain) (ap items_in w.items.ensures ∙ items m))
          (sym w.value-is ∙ c.if-all_plain.false)
      | else-is_plain w ↦ w.value-is ∙ head_not_plain m h w.if-is_plain.false
    ]
