-- `heads::kind_of` meets its contract: bytes that end before position 8 are no word there.
-- Assumes nothing.
use mathlib.Core.Path.{◌≡◌, sym, ◌∙◌}
use mathlib.Core.Bool.{Bool, true, false, cond}
use mathlib.Core.List.{List}
use Prim.Native.Nat.{ℕ, ◌<◌}
use native.Mathlib.Omega.{arith}
use lib.ListN.{length, take, drop, length-drop, length-take}
use Rattle.base.specs.Bytes.{ascii, field, same}
use Rattle.base.proofs.Same.{unlike}
use Rattle.kinds.specs.Kinds.{kind_of}
use Rattle.heads.proofs.kind_of.Goals as goal

module _ (r : List ℕ) where
  told : (t : Bool) → t ≡ same (field 3 8 r) (ascii "BESZED") → cond t 1 0 ≡ kind_of r
  unfolding kind_of
  told t e = rw e

  short : length r < 8 → 0 ≡ kind_of r
  short h = told false (sym (unlike (take 6 (drop 2 r)) (ascii "BESZED") (λ e. omega (arith, length-drop 2 r, length-take 6 (drop 2 r)))))

pub returns-then-r-lt8 : goal.returns-then-r-lt8
returns-then-r-lt8 c = short c.args.r.now c.if-r-lt8.true

pub returns-then-is_same : goal.returns-then-is_same
returns-then-is_same c = told c.args.r.now true (sym c.if-is_same.true ∙ c.is_same.ensures)

pub returns : goal.returns
returns c = told c.args.r.now false (sym c.if-is_same.false ∙ c.is_same.ensures)
