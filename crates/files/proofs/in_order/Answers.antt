-- `files::in_order` meets its contract: the lines that are left decide as all do.
-- Assumes nothing.
use Rattle.std.proofs.Common.{arith, refl, ◌∙◌}
use Rattle.files.proofs.Lines.{small, start, no_line, not_above, on}
use Rattle.files.proofs.in_order.Goals as goal

pub loop-line-init : goal.loop-line-init
loop-line-init c =
    let i = c.into_iter-line-iterator.ensures.into_iter_gives in
    let k = c.chunks_exact-line-items.ensures in
    rw (i, k.size, k.rest) (omega arith, tt, refl, start c.args.s.now)

pub returns-then-not-is_line : goal.returns-then-not-is_line
returns-then-not-is_line c =
    let k = c.loop-line.invariant in
    let t = c.in-Some.ensures.steps in
    no_line k.3 _ _ t.1.0 (t.1.1 ∙ k.2) c.is_line.result c.is_line.ensures c.if-not-is_line.true

pub returns-then-x-least : goal.returns-then-x-least
returns-then-x-least c =
    let k = c.loop-line.invariant in
    let t = c.in-Some.ensures.steps in
    not_above k.3 _ _ t.1.0 (t.1.1 ∙ k.2) c.is_line.result c.is_line.ensures c.if-not-is_line.false c.number-x.result c.number-x.ensures
    c.if-x-least.true

pub overflow_add-least : goal.overflow_add-least
overflow_add-least c = omega (arith, small c.in-Some.line.now)

pub loop-line-preserved : goal.loop-line-preserved
loop-line-preserved c =
    let k = c.loop-line.invariant in
    let t = c.in-Some.ensures.steps in
    let z = t.0 ∙ k.2 in (
      omega arith,
      tt,
      z,
      on k.3 _ _ t.1.0 (t.1.1 ∙ k.2) c.is_line.result c.is_line.ensures c.if-not-is_line.false c.number-x.result c.number-x.ensures c.if-x-least.false,
    )
