-- `lines::cover::put_verdict` meets its contract: two lines, one after the other.
-- Assumes nothing.
use mathlib.Core.Path.{◌≡◌}
use mathlib.Core.List.{List, ◌++◌}
use Prim.Native.Nat.{ℕ, ◌+◌, ◌<◌, ◌≤◌}
use native.Mathlib.Omega.{arith}
use lib.ListN.{length, length-append}
use Rattle.base.specs.Bytes.{ascii}
use Rattle.digits.proofs.Figures.{figures_length}
use Rattle.base.specs.Put.{Written, Put}
use Rattle.lines.specs.Facts.{wide, fact}
use Rattle.lines.specs.Cover.{verdict_lines}
use Rattle.base.proofs.Put.{front, room, both, written, unwritten}
use Rattle.lines.proofs.cover.put_verdict.Goals as goal

module _ (x : List ℕ) (code items v : ℕ) (e : v ≡ wide 2 code) (w : ℕ) (f : w ≡ wide 1 items) where
  abbrev coded : List ℕ
  coded = fact (ascii "MESSAGE ") 2 code

  abbrev counted : List ℕ
  counted = fact (ascii "ITEMS ") 1 items

  long : length (verdict_lines code items) ≡ 16 + v + w
  unfolding verdict_lines
  long = rw (e, f) (simp (length-append, figures_length) (omega arith))

  no_room : length x < 16 + v + w → Written (verdict_lines code items) x 0 x
  no_room h = unwritten (verdict_lines code items) x (omega (arith, long))

  module _ (h : 16 + v + w ≤ length x) where
    fits : 0 + length (coded ++ counted) ≤ length x
    unfolding verdict_lines
    fits = omega (arith, long)

    first : 0 + length coded ≤ length x
    first = front (length x) 0 coded counted fits

    module _ {i : ℕ} {y : List ℕ} (p : Put x 0 coded i y) where
      second : i + length counted ≤ length y
      second = room p counted fits

      all : {r : ℕ} {z : List ℕ} → Put y i counted r z → Written (verdict_lines code items) x r z
      unfolding verdict_lines
      all q = written (omega (arith, long)) (both p counted fits q)

pub returns-then-out-width : goal.returns-then-out-width
returns-then-out-width c =
    let a = c.args in
    no_room a.out.now a.code a.items c.width.result c.width.ensures.0 c.width-2.result
    c.width-2.ensures.0 c.if-out-width.true

pub put_fact-i-requires : goal.put_fact-i-requires
put_fact-i-requires c =
    let a = c.args in
    first a.out.now a.code a.items c.width.result c.width.ensures.0 c.width-2.result
    c.width-2.ensures.0 c.if-out-width.false

pub put_fact-requires : goal.put_fact-requires
put_fact-requires c =
    let a = c.args in
    second a.out.now a.code a.items c.width.result c.width.ensures.0 c.width-2.result
    c.width-2.ensures.0 c.if-out-width.false c.put_fact-i.ensures

pub returns : goal.returns
returns c =
    let a = c.args in
    all a.out.now a.code a.items c.width.result c.width.ensures.0 c.width-2.result
    c.width-2.ensures.0 c.if-out-width.false c.put_fact-i.ensures c.put_fact.ensures
