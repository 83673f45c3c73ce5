-- `lists::ascends_to` meets its contract: the last number alone is compared with the limit.
-- Assumes nothing.
use mathlib.Core.Path.{◌≡◌, sym, ap, ◌∙◌}
use mathlib.Core.Bool.{false, and-true, and-false}
use mathlib.Core.List.{List}
use Prim.Native.Nat.{ℕ, ◌-◌, ◌≤◌, ◌<◌}
use native.Mathlib.Omega.{arith}
use lib.ListN.{length, get_or}
use borrow.Author.Tests.{le-leb, lt-leb}
use Rattle.base.proofs.Walk.{done}
use Rattle.lists.specs.Banks.{ascends, ascends_to}
use Rattle.lists.proofs.Ascent.{by_last}
use Rattle.lists.proofs.ascends_to.Goals as goal

module _ (top : ℕ) (l : List ℕ) (f : length l ≡ 0 → ⊥) where
  over : top < get_or l (length l - 1) 0 → false ≡ ascends_to top l
  over h = sym (by_last top l f ∙ simp (lt-leb (get_or l (length l - 1) 0) top h, and-false))

  within : get_or l (length l - 1) 0 ≤ top → ascends l ≡ ascends_to top l
  within h = sym (by_last top l f ∙ simp (le-leb (get_or l (length l - 1) 0) top h, and-true))

pub returns-then-n-eq0 : goal.returns-then-n-eq0
returns-then-n-eq0 c =
    let args = c.args in
    sym (ap (ascends_to args.top) (done args.list.now 0 (omega arith)))

pub returns-then-list-n : goal.returns-then-list-n
returns-then-list-n c =
    let args = c.args in
    over args.top args.list.now c.if-n-eq0.false c.if-list-n.true

pub returns : goal.returns
returns c =
    let args = c.args in
    c.in_order.ensures
    ∙ within args.top args.list.now c.if-n-eq0.false c.if-list-n.false
