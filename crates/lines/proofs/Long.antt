-- How long a slip is: its words, spaces and ends have 48 bytes, the rest are digits.
-- Assumes nothing.
use mathlib.Core.Path.{◌≡◌, refl}
use mathlib.Core.Bool.{Bool, true, false, cond}
use mathlib.Core.List.{◌++◌}
use Prim.Native.Nat.{ℕ, ◌+◌}
use native.Mathlib.Omega.{arith}
use lib.ListN.{length, length-append}
use Rattle.base.specs.Bytes.{ascii}
use Rattle.digits.proofs.Figures.{figures_length}
use Rattle.frame.specs.declared.Closing.{Closing}
use Rattle.frame.specs.declared.Totals.{Totals}
use Rattle.kinds.specs.Kinds.{is_beszed}
use Rattle.lines.specs.Slip.{line_end, places, code_width, kind_line, slip_of}

-- both kinds have a line of the same length
kind_long : (kind : ℕ) → length (kind_line kind) ≡ 12
kind_long kind = go (is_beszed kind)
  where
    go : (b : Bool) → length (cond b (ascii "KIND BESZED" ++ line_end) (ascii "KIND ATUTAL" ++ line_end)) ≡ 12
    go true = refl
    go false = refl

-- the digits of totals
abbrev pub both : Totals → ℕ
both t = places t.count + places t.sum

pub slip_long : (k : Closing) → length (slip_of k) ≡ 48 + code_width k.code + both k.accepted + both k.refused + places k.zeros
unfolding slip_of
slip_long k = simp (length-append, figures_length, kind_long k.kind) (omega arith)
