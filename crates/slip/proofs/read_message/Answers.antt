-- `slip::read_message` meets its contract: each turn feeds one piece more.
-- Assumes nothing.
use native.Mathlib.Omega.{arith}
use Rattle.slips.proofs.Fed.{none, one_more}
use borrow.Author.Rules.{rules}
use Rattle.slip.proofs.read_message.Goals as goal

pub loop-init : goal.loop-init
loop-init g c = (search rules, search rules, none _ _ _)

pub returns-then-f-eq0 : goal.returns-then-f-eq0
returns-then-f-eq0 g c =
    let f = c.loop.invariant.2 in
    let k = c.read_piece-f in
    one_more f k.result.length k.new.space (λ i. omega (arith, c.slice_known-in-loop-1.given i)) k.ensures

pub loop-preserved : goal.loop-preserved
loop-preserved g c =
    let f = c.loop.invariant.2 in
    let k = c.read_piece-f in
    (search rules, search rules, one_more f k.result.length k.new.space (λ i. omega (arith, c.slice_known-in-loop-1.given i)) k.ensures)

pub returns-after-loop : goal.returns-after-loop
returns-after-loop g c = c.loop.invariant.2
