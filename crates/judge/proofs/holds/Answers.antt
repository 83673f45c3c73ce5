-- `judge::holds` meets its contract: the phase says whether a record may be begun, and its length whether it is whole.
-- Assumes nothing.
use mathlib.Core.Path.{◌≡◌, sym}
use mathlib.Core.Bool.{false}
use mathlib.Core.List.{List}
use Prim.Native.Nat.{ℕ, ◌≤◌, ◌<◌}
use native.Mathlib.Omega.{arith}
use lib.ListN.{take}
use lib.Seq.{length-take-le}
use lib.Dec.{ltb, eqb}
use borrow.Author.Tests.{le-leb, lt-leb, le-ltb}
use Rattle.frame.specs.Machine.{size}
use Rattle.judge.specs.Session.{longest, held_in_range}
use Rattle.judge.proofs.Held.{size_most}
use Rattle.judge.proofs.holds.Goals as goal

module _ (p n : ℕ) (h : List ℕ) where
  late : 1 < p → eqb n 0 ≡ held_in_range p n h
  unfolding held_in_range
  late l = rw (lt-leb p 1 l)

  full : p ≤ 1 → longest ≤ n → false ≡ held_in_range p n h
  unfolding held_in_range
  full l m = rw (le-leb p 1 l) (sym (le-ltb n (size p (take n h)) (omega (arith, size_most p (take n h)))))

  early : (w : ℕ) → p ≤ 1 → w ≡ size p (take n h) → ltb n w ≡ held_in_range p n h
  unfolding held_in_range
  early w l e = rw (le-leb p 1 l, ← e)

pub returns-then-phase-gt1 : goal.returns-then-phase-gt1
returns-then-phase-gt1 c = late c.args.phase c.args.fill c.args.held.now c.if-phase-gt1.true

pub returns-then-fill-ge-ITEM_ENDED : goal.returns-then-fill-ge-ITEM_ENDED
returns-then-fill-ge-ITEM_ENDED c = full c.args.phase c.args.fill c.args.held.now c.if-phase-gt1.false c.if-fill-ge-ITEM_ENDED.true

pub slice_bounds-size_of-end : goal.slice_bounds-size_of-end
slice_bounds-size_of-end c = sym (length-take-le c.args.fill c.args.held.now (omega arith))

pub returns : goal.returns
returns c = early c.args.phase c.args.fill c.args.held.now c.size_of.result c.if-phase-gt1.false c.size_of.ensures
