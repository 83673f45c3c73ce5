-- `lines::facts::put_address` meets its contract: two lines, one after the other.
-- Assumes nothing.
use mathlib.Core.List.{List}
use Prim.Native.Nat.{ℕ, ◌+◌, ◌≤◌}
use lib.ListN.{length}
use Rattle.frame.specs.declared.Status.{Status}
use Rattle.base.specs.Put.{Put}
use Rattle.lines.specs.Facts.{order_line, duplicate_line, address_lines}
use Rattle.base.proofs.Put.{front, room, both}
use borrow.Author.Rules.{rules}
use Rattle.lines.proofs.facts.put_address.Goals as goal

module _ (x : List ℕ) (a : ℕ) (s : Status) (h : a + length (address_lines s) ≤ length x) where
  first : a + length (order_line s.id) ≤ length x
  unfolding address_lines
  first = front (length x) a (order_line s.id) (duplicate_line s.duplicate) h

  module _ {i : ℕ} {y : List ℕ} (p : Put x a (order_line s.id) i y) where
    second : i + length (duplicate_line s.duplicate) ≤ length y
    unfolding address_lines
    second = room p (duplicate_line s.duplicate) h

    all : {r : ℕ} {z : List ℕ} → Put y i (duplicate_line s.duplicate) r z → Put x a (address_lines s) r z
    unfolding address_lines
    all q = both p (duplicate_line s.duplicate) h q

pub put_order-i-requires : goal.put_order-i-requires
put_order-i-requires c =
    let a = c.args in
    (search rules, first a.out.now a.at a.s c.requires)

pub put_three-requires : goal.put_three-requires
put_three-requires c =
    let a = c.args in
    second a.out.now a.at a.s c.requires c.put_order-i.ensures

pub returns : goal.returns
returns c =
    let a = c.args in
    all a.out.now a.at a.s c.requires c.put_order-i.ensures c.put_three.ensures
