-- `lines::slip::put_closing` meets its contract: five lines, one after the other, the first two at once.
-- Assumes nothing.
use mathlib.Core.Path.{◌≡◌}
use mathlib.Core.List.{List, ◌++◌}
use Prim.Native.Nat.{ℕ, ◌+◌, ◌<◌, ◌≤◌}
use native.Mathlib.Omega.{arith}
use lib.ListN.{length}
use Rattle.base.specs.Bytes.{ascii}
use Rattle.frame.specs.declared.Closing.{Closing}
use Rattle.base.specs.Put.{Written, Put}
use Rattle.lines.specs.Slip.{places, line, totals_line, front_lines, slip_of}
use Rattle.base.proofs.Put.{one, two, three, three_fit, four, all_four, written, unwritten}
use Rattle.lines.proofs.slip.put_closing.Goals as goal

module _ (x : List ℕ) (k : Closing) (n : ℕ) (e : n ≡ length (slip_of k)) where
  no_room : length x < n → Written (slip_of k) x 0 x
  no_room h = unwritten (slip_of k) x (omega arith)

  abbrev front : List ℕ
  front = front_lines k.kind k.code

  abbrev accepted : List ℕ
  accepted = totals_line (ascii "ACCEPTED ") k.accepted

  abbrev refused : List ℕ
  refused = totals_line (ascii "REFUSED ") k.refused

  abbrev zeros : List ℕ
  zeros = line (ascii "ZERO ") (places k.zeros) k.zeros

  module _ (h : n ≤ length x) where
    fits : 0 + length (front ++ accepted ++ refused ++ zeros) ≤ length x
    unfolding slip_of
    fits = omega arith

    fits_three : 0 + length (front ++ accepted ++ refused) ≤ length x
    fits_three = three_fit x 0 front accepted refused zeros fits

    first : length front ≤ length x
    first = omega (arith, one x 0 front accepted refused fits_three)

    module _ {i : ℕ} {y : List ℕ} (p : Put x 0 front i y) where
      second : i + length accepted ≤ length y
      second = two x 0 front accepted refused fits_three p

      module _ {j : ℕ} {z : List ℕ} (q : Put y i accepted j z) where
        third : j + length refused ≤ length z
        third = three x 0 front accepted refused fits_three p q

        module _ {l : ℕ} {u : List ℕ} (s : Put z j refused l u) (v : ℕ) (g : v ≡ places k.zeros) where
          fourth : l + length (line (ascii "ZERO ") v k.zeros) ≤ length u
          fourth = rw g (four x 0 front accepted refused zeros fits p q s)

          all : {r : ℕ} {o : List ℕ} → Put u l (line (ascii "ZERO ") v k.zeros) r o → Written (slip_of k) x r o
          unfolding slip_of
          all t = written (omega arith) (all_four x 0 front accepted refused zeros fits p q s (rw g at t))

pub returns-then-out-slip_length : goal.returns-then-out-slip_length
returns-then-out-slip_length c = no_room c.args.out.now c.args.k c.slip_length.result c.slip_length.ensures c.if-out-slip_length.true

pub put_front-i-requires : goal.put_front-i-requires
put_front-i-requires c = first c.args.out.now c.args.k c.slip_length.result c.slip_length.ensures c.if-out-slip_length.false

pub put_totals-i-requires : goal.put_totals-i-requires
put_totals-i-requires c = second c.args.out.now c.args.k c.slip_length.result c.slip_length.ensures c.if-out-slip_length.false c.put_front-i.ensures

pub put_totals-i-requires-2 : goal.put_totals-i-requires-2
put_totals-i-requires-2 c =
    third c.args.out.now c.args.k c.slip_length.result c.slip_length.ensures c.if-out-slip_length.false c.put_front-i.ensures
    c.put_totals-i.ensures

pub put_line-requires : goal.put_line-requires
put_line-requires c = (
  fourth c.args.out.now c.args.k c.slip_length.result c.slip_length.ensures c.if-out-slip_length.false c.put_front-i.ensures
      c.put_totals-i.ensures c.put_totals-i-2.ensures c.places.result c.places.ensures.0,
  c.places.ensures.2,
)

pub returns : goal.returns
returns c =
    all c.args.out.now c.args.k c.slip_length.result c.slip_length.ensures c.if-out-slip_length.false c.put_front-i.ensures
    c.put_totals-i.ensures c.put_totals-i-2.ensures c.places.result c.places.ensures.0 c.put_line.ensures
