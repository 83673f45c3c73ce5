-- `cover::foot::totals` meets its contract: what is counted so far, with the items that are left, is the whole.
-- Assumes nothing.
use mathlib.Core.Path.{refl, ap, ◌∙◌}
use native.Mathlib.Omega.{arith}
use borrow.Author.Rules.{rules}
use Rattle.std.specs.Slice.Iter.{chunks_exact_rest, chunks_exact_size}
use Rattle.base.proofs.Chunks.{chunk_long}
use Rattle.cover.proofs.Sums.{none, item_small, few_on, summed_on, all_summed}
use Rattle.cover.proofs.foot.totals.Goals as goal

pub loop-i-init : goal.loop-i-init
loop-i-init c =
    let e = c.into_iter-i-iterator.ensures.into_iter_gives in
    let p = c.chunks_exact-i-items.ensures in
    none _ _ (ap chunks_exact_rest e ∙ p.rest) (ap chunks_exact_size e ∙ p.size)

pub unwrap-requires : goal.unwrap-requires
unwrap-requires c =
    let l = chunk_long 72 c.loop-i.i-iterator c.next.new.self c.in-Some.i c.loop-i.invariant.size c.in-Some.ensures.steps in
    c.first_chunk.ensures.variant.1 (omega (arith, l))

pub overflow_add-count : goal.overflow_add-count
overflow_add-count c =
    omega (arith, few_on _ _ c.loop-i.invariant c.next.new.self c.in-Some.i c.in-Some.ensures.steps (search rules) c.totals_in-t.ensures)

pub added-sum-requires : goal.added-sum-requires
added-sum-requires c =
    let w = c.loop-i.invariant in
    (w.small, item_small _ _ w c.next.new.self c.in-Some.i c.in-Some.ensures.steps (search rules) c.totals_in-t.ensures)

pub loop-i-preserved : goal.loop-i-preserved
loop-i-preserved c =
    let w = c.loop-i.invariant in
    summed_on _ _ w c.next.new.self c.in-Some.i c.in-Some.ensures.steps (search rules) c.totals_in-t.ensures c.added-sum.ensures

pub returns : goal.returns
returns c = all_summed _ _ c.loop-i.invariant c.next.new.self c.in-None.ensures.steps refl
