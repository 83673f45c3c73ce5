-- `lines::facts::put_item` meets its contract: three texts, one after the other.
-- Assumes nothing.
use mathlib.Core.Path.{◌≡◌}
use mathlib.Core.List.{List, ◌++◌}
use Prim.Native.Nat.{ℕ, ◌+◌, ◌^◌, ◌<◌, ◌≤◌}
use native.Mathlib.Omega.{arith}
use lib.ListN.{length, length-append}
use Rattle.base.specs.Bytes.{ascii}
use Rattle.digits.specs.Digits.{figures}
use Rattle.digits.proofs.Figures.{figures_length}
use Rattle.base.specs.Put.{Written, Put}
use Rattle.lines.specs.Slip.{places}
use Rattle.lines.specs.Facts.{wide, fact, item_line}
use Rattle.base.proofs.Put.{written, unwritten}
use Rattle.text.proofs.At as text
use Rattle.digits.proofs.At as digits
use Rattle.lines.proofs.Puts as puts
use Rattle.lines.proofs.facts.put_item.Goals as goal

module _ (x : List ℕ) (place code w : ℕ) (e : w ≡ places place) (v : ℕ) (f : v ≡ wide 2 code) where
  abbrev number : List ℕ
  number = figures w place

  abbrev coded : List ℕ
  coded = fact (ascii " ") 2 code

  is_line : ascii "ITEM " ++ number ++ coded ≡ item_line place code
  unfolding item_line
  is_line = rw e

  long : length (ascii "ITEM " ++ number ++ coded) ≡ 7 + w + v
  long = rw f (simp (length-append, figures_length) (omega arith))

  no_room : length x < 7 + w + v → Written (item_line place code) x 0 x
  no_room h = rw is_line at (unwritten (ascii "ITEM " ++ number ++ coded) x (omega (arith, long)))

  module _ (h : 7 + w + v ≤ length x) where
    fits : 0 + length (ascii "ITEM " ++ number ++ coded) ≤ length x
    fits = omega (arith, long)

    module _ (k : place < 10 ^ w) {i j : ℕ} {y z : List ℕ} (p : text.PutAt x 0 (ascii "ITEM ") i y) (q : digits.PutAt y i w place j z) where
      room : j + length coded ≤ length z
      room = puts.rest x 0 (ascii "ITEM ") w place k coded fits p q

      all : {r : ℕ} {u : List ℕ} → Put z j coded r u → Written (item_line place code) x r u
      all s = rw is_line at (written (omega (arith, long)) (puts.all x 0 (ascii "ITEM ") w place k coded fits p q s))

pub returns-then-out-w : goal.returns-then-out-w
returns-then-out-w c =
    let a = c.args in
    no_room a.out.now a.place a.code c.places-w.result c.places-w.ensures.0 c.width.result
    c.width.ensures.0 c.if-out-w.true

pub put_fact-requires : goal.put_fact-requires
put_fact-requires c =
    let a = c.args in
    room a.out.now a.place a.code c.places-w.result c.places-w.ensures.0 c.width.result
    c.width.ensures.0 c.if-out-w.false c.places-w.ensures.2 (c.put_at-i.ensures.place, c.put_at-i.ensures.bytes)
    (c.put_at-i-2.ensures.place, c.put_at-i-2.ensures.bytes)

pub returns : goal.returns
returns c =
    let a = c.args in
    all a.out.now a.place a.code c.places-w.result c.places-w.ensures.0 c.width.result
    c.width.ensures.0 c.if-out-w.false c.places-w.ensures.2 (c.put_at-i.ensures.place, c.put_at-i.ensures.bytes)
    (c.put_at-i-2.ensures.place, c.put_at-i-2.ensures.bytes)
    c.put_fact.ensures
