-- `judge::size_of` meets its contract: the phase and the first two bytes say how long the record is.
-- Assumes nothing.
use mathlib.Core.Path.{sym, ◌∙◌}
use Rattle.judge.proofs.Held.{size_head, size_foot, size_item}
use Rattle.judge.proofs.size_of.Goals as goal

pub returns-then-phase-eq0 : goal.returns-then-phase-eq0
returns-then-phase-eq0 c = sym (size_head c.args.phase c.args.x.now c.if-phase-eq0.true)

pub returns-then-is_foot : goal.returns-then-is_foot
returns-then-is_foot c = sym (size_foot c.args.phase c.args.x.now c.if-phase-eq0.false (sym c.is_foot.ensures ∙ c.if-is_foot.true))

pub returns : goal.returns
returns c = sym (size_item c.args.phase c.args.x.now c.if-phase-eq0.false (sym c.is_foot.ensures ∙ c.if-is_foot.false))
