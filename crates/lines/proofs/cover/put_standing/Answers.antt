-- `lines::cover::put_standing` meets its contract: a word, the place and the mark, one after the other.
-- Assumes nothing.
use mathlib.Core.Path.{◌≡◌}
use mathlib.Core.List.{List, [], ◌∷◌, ◌++◌}
use Prim.Native.Nat.{ℕ, ◌+◌, ◌^◌, ◌<◌, ◌≤◌}
use native.Mathlib.Omega.{arith}
use lib.ListN.{length, length-append}
use Rattle.base.specs.Bytes.{ascii}
use Rattle.digits.specs.Digits.{figures}
use Rattle.digits.proofs.Figures.{figures_length}
use Rattle.base.specs.Put.{Written, Put}
use Rattle.lines.specs.Slip.{line_end, places}
use Rattle.lines.specs.Cover.{standing_line}
use Rattle.base.proofs.Put.{written, unwritten}
use Rattle.text.proofs.At as text
use Rattle.digits.proofs.At as digits
use Rattle.lines.proofs.Puts as puts
use Rattle.lines.proofs.cover.put_standing.Goals as goal

module _ (x : List ℕ) (place answer w : ℕ) (e : w ≡ places place) where
  abbrev number : List ℕ
  number = figures w place

  abbrev mark : List ℕ
  mark = ascii " 00 STANDS " ++ (answer ∷ []) ++ line_end

  is_line : ascii "ITEM " ++ number ++ mark ≡ standing_line place answer
  unfolding standing_line
  is_line = rw e

  long : length (ascii "ITEM " ++ number ++ mark) ≡ 18 + w
  long = simp (length-append, figures_length) (omega arith)

  no_room : length x < 18 + w → Written (standing_line place answer) x 0 x
  no_room h = rw is_line at (unwritten (ascii "ITEM " ++ number ++ mark) x (omega (arith, long)))

  module _ (h : 18 + w ≤ length x) where
    fits : 0 + length (ascii "ITEM " ++ number ++ mark) ≤ length x
    fits = omega (arith, long)

    module _ (k : place < 10 ^ w) {i j : ℕ} {y z : List ℕ} (p : text.PutAt x 0 (ascii "ITEM ") i y) (q : digits.PutAt y i w place j z) where
      room : j + length mark ≤ length z
      room = puts.rest x 0 (ascii "ITEM ") w place k mark fits p q

      all : {r : ℕ} {u : List ℕ} → Put z j mark r u → Written (standing_line place answer) x r u
      all s = rw is_line at (written (omega (arith, long)) (puts.all x 0 (ascii "ITEM ") w place k mark fits p q s))

pub returns-then-out-w : goal.returns-then-out-w
returns-then-out-w c =
    let a = c.args in
    no_room a.out.now a.place a.answer c.places-w.result c.places-w.ensures.0 c.if-out-w.true

pub put_three-requires : goal.put_three-requires
put_three-requires c =
    let a = c.args in
    room a.out.now a.place a.answer c.places-w.result c.places-w.ensures.0 c.if-out-w.false
    c.places-w.ensures.2 (c.put_at-i.ensures.place, c.put_at-i.ensures.bytes) (c.put_at-i-2.ensures.place, c.put_at-i-2.ensures.bytes)

pub returns : goal.returns
returns c =
    let a = c.args in
    all a.out.now a.place a.answer c.places-w.result c.places-w.ensures.0 c.if-out-w.false
    c.places-w.ensures.2 (c.put_at-i.ensures.place, c.put_at-i.ensures.bytes) (c.put_at-i-2.ensures.place, c.put_at-i-2.ensures.bytes) c.put_three.ensures
