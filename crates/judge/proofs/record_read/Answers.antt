-- `judge::record_read` meets its contract: the record's kind and its ending decide.
-- Assumes nothing.
use mathlib.Core.Path.{sym, ◌∙◌}
use native.Mathlib.Omega.{arith}
use Rattle.frame.specs.Records.{lengths}
use Rattle.lent.specs.Lent.{Lent, lent_in}
use Rattle.frame.proofs.Uncut.{ended_long}
use Rattle.judge.proofs.Tallies.{judge_head, judge_headless, judge_foot, judge_footless, judge_item, judge_itemless}
use Rattle.judge.proofs.record_read.Goals.{Start}
use Rattle.judge.proofs.record_read.Goals as goal

-- what is lent
abbrev given : Start → Lent
given c = lent_in c.args.day c.args.lists.now

pub slice_bounds-head_read-end : goal.slice_bounds-head_read-end
slice_bounds-head_read-end c = omega (arith, ended_long lengths.head c.args.x.now (sym c.has_ending.ensures ∙ c.if-has_ending.true))

pub returns-then-has_ending : goal.returns-then-has_ending
returns-then-has_ending c =
    let a = c.args in
    judge_head (given (goal.at.returns-then-has_ending c).Start) a.table.now a.x.now a.tally c.head_read.result c.if-tally-eq0.true
    (sym c.has_ending.ensures ∙ c.if-has_ending.true) c.head_read.ensures

pub returns-then-tally-eq0 : goal.returns-then-tally-eq0
returns-then-tally-eq0 c =
    let a = c.args in
    judge_headless (given (goal.at.returns-then-tally-eq0 c).Start) a.table.now a.x.now a.tally c.phased.result c.if-tally-eq0.true
    (sym c.has_ending.ensures ∙ c.if-has_ending.false) c.phased.ensures

pub slice_bounds-foot_read-end : goal.slice_bounds-foot_read-end
slice_bounds-foot_read-end c = omega (arith, ended_long lengths.foot c.args.x.now (sym c.has_ending-then-is_foot.ensures ∙ c.if-has_ending-2.true))

pub returns-then-has_ending-2 : goal.returns-then-has_ending-2
returns-then-has_ending-2 c =
    let a = c.args in
    judge_foot (given (goal.at.returns-then-has_ending-2 c).Start) a.table.now a.x.now a.tally c.foot_read.result c.if-tally-eq0.false
    (sym c.is_foot.ensures ∙ c.if-is_foot.true) (sym c.has_ending-then-is_foot.ensures ∙ c.if-has_ending-2.true) c.foot_read.ensures

pub returns-then-is_foot : goal.returns-then-is_foot
returns-then-is_foot c =
    let a = c.args in
    judge_footless (given (goal.at.returns-then-is_foot c).Start) a.table.now a.x.now a.tally c.phased-then-is_foot.result c.if-tally-eq0.false
    (sym c.is_foot.ensures ∙ c.if-is_foot.true) (sym c.has_ending-then-is_foot.ensures ∙ c.if-has_ending-2.false) c.phased-then-is_foot.ensures

pub slice_bounds-item_read-end : goal.slice_bounds-item_read-end
slice_bounds-item_read-end c = omega (arith, ended_long lengths.item c.args.x.now (sym c.has_ending-2.ensures ∙ c.if-has_ending-3.true))

pub returns-then-has_ending-3 : goal.returns-then-has_ending-3
returns-then-has_ending-3 c =
    let a = c.args in
    judge_item (given (goal.at.returns-then-has_ending-3 c).Start) a.table.now a.x.now a.tally c.item_read.result c.if-tally-eq0.false
    (sym c.is_foot.ensures ∙ c.if-is_foot.false) (sym c.has_ending-2.ensures ∙ c.if-has_ending-3.true) c.item_read.ensures

pub returns : goal.returns
returns c =
    let a = c.args in
    judge_itemless (given (goal.at.returns c).Start) a.table.now a.x.now a.tally c.phased-2.result c.if-tally-eq0.false
    (sym c.is_foot.ensures ∙ c.if-is_foot.false) (sym c.has_ending-2.ensures ∙ c.if-has_ending-3.false) c.phased-2.ensures
