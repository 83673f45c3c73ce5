-- `lines::slip::put_refusal` meets its contract.
-- Assumes nothing.
use mathlib.Core.Path.{◌≡◌}
use mathlib.Core.List.{List}
use Prim.Native.Nat.{ℕ, ◌+◌, ◌<◌, ◌≤◌}
use native.Mathlib.Omega.{arith}
use lib.ListN.{length, length-append}
use Rattle.base.specs.Bytes.{ascii}
use Rattle.digits.proofs.Figures.{figures_length}
use Rattle.lent.specs.Lent.{refusal_number}
use Rattle.lent.specs.declared.Refusal.{Refusal}
use Rattle.base.specs.Put.{Written, Put}
use Rattle.lines.specs.Slip.{places, line, refusal_line}
use Rattle.base.proofs.Put.{written, unwritten}
use borrow.Author.Rules.{rules}
use Rattle.lines.proofs.slip.put_refusal.Goals as goal

module _ (x : List ℕ) (r : Refusal) (n : ℕ) (e : n ≡ refusal_number r) (w : ℕ) (f : w ≡ places n) where
  is_line : line (ascii "REFUSAL ") w n ≡ refusal_line r
  is_line = rw (f, e)

  long : length (line (ascii "REFUSAL ") w n) ≡ 9 + w
  long = simp (length-append, figures_length) (omega arith)

  no_room : length x < 9 + w → Written (refusal_line r) x 0 x
  no_room h = rw is_line at (unwritten (line (ascii "REFUSAL ") w n) x (omega (arith, long)))

  module _ (h : 9 + w ≤ length x) where
    fits : 0 + length (line (ascii "REFUSAL ") w n) ≤ length x
    fits = omega (arith, long)

    puts : {m : ℕ} {y : List ℕ} → Put x 0 (line (ascii "REFUSAL ") w n) m y → Written (refusal_line r) x m y
    puts p = rw is_line at (written (omega (arith, long)) p)

pub returns-then-out-w : goal.returns-then-out-w
returns-then-out-w c =
    no_room c.args.out.now c.args.r c.from-n.result (search rules) c.places-w.result c.places-w.ensures.0
    c.if-out-w.true

pub put_line-requires : goal.put_line-requires
put_line-requires c = (
  fits c.args.out.now c.args.r c.from-n.result (search rules) c.places-w.result c.places-w.ensures.0
      c.if-out-w.false,
  c.places-w.ensures.2,
)

pub returns : goal.returns
returns c =
    puts c.args.out.now c.args.r c.from-n.result (search rules) c.places-w.result c.places-w.ensures.0 c.if-out-w.false
    c.put_line.ensures
