-- `lines::slip::put_totals` meets its contract: three texts, one after the other.
-- Assumes nothing.
use mathlib.Core.Path.{◌≡◌}
use mathlib.Core.List.{List, ◌++◌}
use Prim.Native.Nat.{ℕ, ◌+◌, ◌^◌, ◌≤◌, ◌<◌}
use lib.ListN.{length}
use Rattle.base.specs.Bytes.{ascii}
use Rattle.base.specs.Put.{Put}
use Rattle.text.proofs.At as text
use Rattle.digits.specs.Digits.{figures}
use Rattle.digits.proofs.At as digits
use Rattle.frame.specs.declared.Totals.{Totals}
use Rattle.lines.specs.Slip.{places, line, totals_line}
use Rattle.lines.proofs.Puts as puts
use Rattle.lines.proofs.slip.put_totals.Goals as goal

module _ (x : List ℕ) (a : ℕ) (word : List ℕ) (t : Totals) (h : a + length (totals_line word t) ≤ length x) where
  abbrev sum : List ℕ
  sum = line (ascii " ") (places t.sum) t.sum

  module _ (w : ℕ) (e : (w ≡ places t.count) × (w ≤ 20) × (t.count < 10 ^ w)) where
    fits : a + length (word ++ figures w t.count ++ sum) ≤ length x
    fits = rw e.0 h

    module _ {i j : ℕ} {y z : List ℕ} (p : text.PutAt x a word i y) (q : digits.PutAt y i w t.count j z) (v : ℕ) (f : v ≡ places t.sum) where
      room : j + length (line (ascii " ") v t.sum) ≤ length z
      room = rw f (puts.rest x a word w t.count e.2 sum fits p q)

      all : {r : ℕ} {u : List ℕ} → Put z j (line (ascii " ") v t.sum) r u → Put x a (totals_line word t) r u
      all s = rw e.0 at (puts.all x a word w t.count e.2 sum fits p q (rw f at s))

pub put_line-requires : goal.put_line-requires
put_line-requires c =
    let a = c.args in
    let few = room a.out.now a.at a.word.now a.t c.requires c.places.result c.places.ensures in
    let two = few (c.put_at-i.ensures.place, c.put_at-i.ensures.bytes) (c.put_at-i-2.ensures.place, c.put_at-i-2.ensures.bytes) in
    (two c.places-2.result c.places-2.ensures.0, c.places-2.ensures.2)

pub returns : goal.returns
returns c =
    let a = c.args in
    all a.out.now a.at a.word.now a.t c.requires c.places.result c.places.ensures (c.put_at-i.ensures.place, c.put_at-i.ensures.bytes)
    (c.put_at-i-2.ensures.place, c.put_at-i-2.ensures.bytes) c.places-2.result c.places-2.ensures.0 c.put_line.ensures
