-- `lines::facts::order_length` meets its contract: the fields have 25 bytes, the rest nine.
-- Assumes nothing.
use mathlib.Core.Path.{◌≡◌}
use mathlib.Core.List.{List}
use Prim.Native.Nat.{ℕ}
use native.Mathlib.Omega.{arith}
use lib.ListN.{length, length-append, length-take, length-drop}
use Rattle.lines.specs.Facts.{order_line}
use Rattle.lines.proofs.facts.order_length.Goals as goal

long : (id : List ℕ) → length id ≡ 25 → length (order_line id) ≡ 34
unfolding order_line
long id e = simp (length-append, length-take, length-drop, e)

pub returns : goal.returns
returns c =
    let l = long c.args.id.now c.requires in
    (omega arith, omega arith)
