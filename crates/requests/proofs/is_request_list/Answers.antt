-- `requests::is_request_list` meets its contract: the requests that are left decide as the whole list does.
-- Assumes nothing.
use mathlib.Core.Path.{sym, ◌∙◌}
use Prim.Native.Nat.{◌≤◌}
use native.Mathlib.Omega.{arith}
use lib.ListN.{length}
use borrow.Author.Rules.{rules}
use Rattle.requests.proofs.Twins.{start, cut_short, ends, no_sum, twin, on}
use Rattle.requests.proofs.is_request_list.Goals as goal

pub returns-then-list-ne0 : goal.returns-then-list-ne0
returns-then-list-ne0 c = cut_short c.args.list.now c.if-list-ne0.true

pub loop-k-init : goal.loop-k-init
loop-k-init c = start c.args.list.now c.if-list-ne0.false

pub returns-then-not-is_digits : goal.returns-then-not-is_digits
returns-then-not-is_digits c =
    let p = c.split_at.ensures in
    no_sum c.loop-k.invariant c.loop-k-test.true p.front p.back p.front_len (sym c.is_digits.ensures ∙ c.if-not-is_digits.true)

pub slice_bounds-find-end : goal.slice_bounds-find-end
slice_bounds-find-end c =
    let h : 25 ≤ length c.split_at.result.0.now = omega (arith, c.split_at.ensures.front_len) in
    search rules

pub returns-then-is_some : goal.returns-then-is_some
returns-then-is_some c =
    let p = c.split_at.ensures in
    let s = sym c.is_digits.ensures ∙ c.if-not-is_digits.false in
    twin c.loop-k.invariant c.loop-k-test.true p.front p.back p.front_len s c.find.ensures (sym c.is_some.ensures ∙ c.if-is_some.true)

pub loop-k-preserved : goal.loop-k-preserved
loop-k-preserved c =
    let p = c.split_at.ensures in
    let s = sym c.is_digits.ensures ∙ c.if-not-is_digits.false in
    on c.loop-k.invariant c.loop-k-test.true p.front p.back p.front_len s c.find.ensures (sym c.is_some.ensures ∙ c.if-is_some.false)

pub returns : goal.returns
returns c = ends c.loop-k.invariant c.loop-k-test.false
