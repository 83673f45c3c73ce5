-- `answers::is_fedjel` meets its contract: test by test.
-- Assumes nothing.
use mathlib.Core.Path.{sym, ap, ◌∙◌}
use Rattle.frame.specs.Records.{ended}
use Rattle.answers.proofs.Form.{short, uneven, foot, no_head, no_item, by_foot}
use Rattle.answers.proofs.is_fedjel.Goals.{then-has_ending, else-has_ending}
use Rattle.answers.proofs.is_fedjel.Goals as goal

pub returns-then-message-lt150 : goal.returns-then-message-lt150
returns-then-message-lt150 c = short c.args.message.now c.if-message-lt150.true

pub returns-then-message-ne0 : goal.returns-then-message-ne0
returns-then-message-ne0 c = uneven c.args.message.now c.if-message-lt150.false c.if-message-ne0.true

pub returns-then-all_ended : goal.returns-then-all_ended
returns-then-all_ended c =
    let m = c.args.message.now in
    elim c.if-has_ending.branch [
      | then-has_ending w ↦
          by_foot m c.if-message-lt150.false c.if-message-ne0.false c.has_ending.ensures w.if-has_ending.true w.items.ensures w.all_ended.ensures
          (sym w.value-is ∙ c.if-all_ended.true) (c.has_ending-then-all_ended.ensures ∙ ap (ended 42) (foot m c.count.ensures))
      | else-has_ending w ↦ cc
    ]

pub returns-else-all_ended : goal.returns-else-all_ended
returns-else-all_ended c =
    let m = c.args.message.now in
    elim c.if-has_ending.branch [
      | then-has_ending w ↦
          w.value-is
          ∙ no_item m c.if-message-lt150.false c.if-message-ne0.false c.has_ending.ensures w.if-has_ending.true w.items.ensures w.all_ended.ensures
          (sym w.value-is ∙ c.if-all_ended.false)
      | else-has_ending w ↦
          w.value-is ∙ no_head m c.if-message-lt150.false c.if-message-ne0.false c.has_ending.ensures w.if-has_ending.false
    ]
