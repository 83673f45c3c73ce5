-- `cover::codes::items_code` meets its contract: the items that are left give the code that all give.
-- Assumes nothing.
use mathlib.Core.Path.{ap, ◌∙◌}
use native.Mathlib.Omega.{arith}
use borrow.Author.Rules.{rules}
use Rattle.std.specs.Slice.Iter.{chunks_exact_rest, chunks_exact_size}
use Rattle.base.proofs.Chunks.{chunk_long}
use Rattle.cover.proofs.Parts.{faultless, no_fault, a_fault, faultless_on}
use Rattle.cover.proofs.codes.items_code.Goals as goal

pub loop-i-init : goal.loop-i-init
loop-i-init c =
    let e = c.into_iter-i-iterator.ensures.into_iter_gives in
    let p = c.chunks_exact-i-items.ensures in
    faultless (ap chunks_exact_rest e ∙ p.rest) (ap chunks_exact_size e ∙ p.size)

pub unwrap-requires : goal.unwrap-requires
unwrap-requires c =
    let l = chunk_long 72 c.loop-i.i-iterator c.next.new.self c.in-Some.i c.loop-i.invariant.size c.in-Some.ensures.steps in
    c.first_chunk.ensures.variant.1 (omega (arith, l))

pub returns-then-c-ne0 : goal.returns-then-c-ne0
returns-then-c-ne0 c = a_fault c.loop-i.invariant c.next.new.self c.in-Some.i c.in-Some.ensures.steps (search rules) c.item_code-c.ensures c.if-c-ne0.true

pub loop-i-preserved : goal.loop-i-preserved
loop-i-preserved c = faultless_on c.loop-i.invariant c.next.new.self c.in-Some.i c.in-Some.ensures.steps (search rules) c.item_code-c.ensures c.if-c-ne0.false

pub returns : goal.returns
returns c = no_fault c.loop-i.invariant c.next.new.self c.in-None.ensures.steps
