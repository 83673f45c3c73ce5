-- `answers::put_codes` meets its contract: the codes of the items walked over stand in the table.
-- Assumes nothing.
use mathlib.Core.Path.{◌≡◌, ap, ◌∙◌}
use Prim.Native.Nat.{◌<◌}
use native.Mathlib.Omega.{arith}
use lib.ListN.{take}
use borrow.Author.Rules.{rules}
use Rattle.answers.specs.Fedjel.{item_count}
use Rattle.answers.proofs.Codes.{coded, coded_on, coded_long, coded_all, low, item_lent}
use Rattle.answers.proofs.put_codes.Goals as goal

pub loop-k-init : goal.loop-k-init
loop-k-init c = coded _ _ _

pub split_at-requires : goal.split_at-requires
split_at-requires c =
    let i : c.loop-k.k < item_count c.args.message.now = omega (arith, c.loop-k-test.true, c.count-k-end.ensures) in
    omega (arith, low c.args.message.now c.items-items.ensures i)

pub unwrap-requires : goal.unwrap-requires
unwrap-requires c =
    let i : c.loop-k.k < item_count c.args.message.now = omega (arith, c.loop-k-test.true, c.count-k-end.ensures) in
    let h = low c.args.message.now c.items-items.ensures i in
    c.first_chunk.ensures.variant.1 (omega (arith, h, c.split_at.ensures.back_len))

pub shape_of-table : goal.shape_of-table
shape_of-table c = search (rules, coded_long _ _ _ c.loop-k.invariant)

pub loop-k-preserved : goal.loop-k-preserved
loop-k-preserved c =
    let i : c.loop-k.k < item_count c.args.message.now = omega (arith, c.loop-k-test.true, c.count-k-end.ensures) in
    let f : c.unwrap.result.now ≡ take 70 c.split_at.result.1.now = search rules in
    let p = c.split_at.ensures in
    let q = item_lent c.args.message.now c.items-items.ensures i _ p.front (f ∙ ap (take 70) p.back) in
    coded_on _ _ _ c.loop-k.invariant i (c.code_of-c.ensures ∙ q) c.put_code.ensures

pub returns : goal.returns
returns c = coded_all _ _ _ c.loop-k.invariant (omega (arith, c.loop-k-test.false, c.loop-k.auto.k-end, c.count-k-end.ensures))
