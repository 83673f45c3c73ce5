-- `lines::facts::head_length` meets its contract: the lengths of the six lines.
-- Assumes nothing.
use mathlib.Core.Path.{◌≡◌}
use mathlib.Core.List.{◌++◌}
use Prim.Native.Nat.{◌+◌}
use native.Mathlib.Omega.{arith}
use lib.ListN.{length, length-append}
use Rattle.digits.proofs.Figures.{figures_length}
use Rattle.frame.specs.declared.Status.{Status}
use Rattle.lines.specs.Facts.{wide, order_line, address_lines, own_lines}
use Rattle.lines.proofs.facts.head_length.Goals as goal

long : (s : Status) → length (address_lines s ++ own_lines s)
    ≡ 38 + length (order_line s.id) + (wide 8 s.date + wide 1 s.number) + wide 6 s.time + wide 2 s.code
unfolding address_lines own_lines
long s = simp (length-append, figures_length) (omega arith)

pub returns : goal.returns
returns c =
    let l = long c.args.s in
    let o = c.order_length.ensures in
    (omega (arith, o.0, c.width.ensures.0, c.width-2.ensures.0, c.width-3.ensures.0, c.width-4.ensures.0), omega (arith, o.1))
