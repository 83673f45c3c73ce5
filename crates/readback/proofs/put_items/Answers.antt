-- `readback::put_items` is safe: each line lies within what is left of the output.
-- Assumes nothing.
use mathlib.Core.Path.{◌≡◌, sym, ◌∙◌}
use mathlib.Core.List.{List}
use Prim.Native.Nat.{ℕ, ◌+◌, ◌-◌, ◌≤◌}
use native.Mathlib.Omega.{arith}
use lib.ListN.{length, take, drop}
use lib.Seq.{length-take-le}
use borrow.Rule.Slice.PartMut.{put_mid, same_len_mid, mid_len}
use Rattle.base.specs.Put.{Written}
use Rattle.base.proofs.Written.{text, kept}
use Rattle.readback.proofs.put_items.Goals as goal

module _ (out : List ℕ) (at : ℕ) (h : at ≤ length out) {d : List ℕ} {r : ℕ} {y : List ℕ} (w : Written d (take (length out - at) (drop at out)) r y) where
  long : length (put_mid at (length out - at) out y) ≡ length out
  long = same_len_mid at (length out - at) out y (kept w)

  short : at + r ≤ length out
  short = omega (arith, (text w).low, kept w, mid_len at (length out) out (omega arith))

pub overflow_add-at : goal.overflow_add-at
overflow_add-at c = omega (arith, short c.loop-i.out c.loop-i.at c.loop-i.invariant.0 c.put_item-at.ensures)

pub loop-i-preserved : goal.loop-i-preserved
loop-i-preserved c =
    let l = long c.loop-i.out c.loop-i.at c.loop-i.invariant.0 c.put_item-at.ensures in
    (omega (arith, short c.loop-i.out c.loop-i.at c.loop-i.invariant.0 c.put_item-at.ensures), l ∙ c.loop-i.invariant.1)

pub returns : goal.returns
returns c =
    let h = c.loop-i.invariant.0 in (omega arith, sym (length-take-le _ _ (omega arith)))
