-- `heads::told_of` meets its contract: the kind that the head tells, and the bar unless that is BESZED.
-- Assumes nothing.
use mathlib.Core.Path.{◌≡◌}
use mathlib.Core.Bool.{Bool, true, false, cond, not, ◌&&◌}
use mathlib.Core.List.{List}
use Prim.Native.Nat.{ℕ, ◌<◌}
use native.Mathlib.Omega.{arith}
use lib.Dec.{lit<}
use Rattle.base.specs.Bytes.{ascii, field, same}
use Rattle.lists.specs.Banks.{found_in}
use Rattle.kinds.specs.Kinds.{kind_of, is_beszed, is_barred_bank, told_of}
use Rattle.heads.proofs.told_of.Goals as goal

module _ (is_barred : ℕ → Bool) (r : List ℕ) where
  tells : {kind : ℕ} {barred : Bool} → kind ≡ kind_of r → barred ≡ is_barred_bank is_barred r
      → record { kind = kind; barred = not (is_beszed kind) && barred } ≡ told_of is_barred r
  unfolding told_of
  tells p q = rw (p, q)

-- a kind's number fits a byte
kind_lt : (r : List ℕ) → kind_of r < 256
unfolding kind_of
kind_lt r = go (same (field 3 8 r) (ascii "BESZED"))
  where
    go : (b : Bool) → cond b 1 0 < 256
    go true = lit< tt
    go false = lit< tt

pub overflow_cast-result : goal.overflow_cast-result
overflow_cast-result c = omega (arith, kind_lt c.args.r.now, c.kind_of-kind.ensures)

pub returns : goal.returns
returns c = tells (found_in c.args.barred.now) c.args.r.now c.kind_of-kind.ensures c.is_barred.ensures
