-- The invariant of the loop of `text::put`: the bytes put so far stand over the front.
-- Assumes nothing.
use Rattle.std.proofs.Common.{◌≡◌, length, take, ◌≤◌}
use Rattle.base.specs.Bytes.{over}
use Rattle.text.proofs.put.Given as goal

abbrev pub invariant-loop-i : goal.invariant-loop-i
invariant-loop-i l = l.out ≡ over l.initial.out 0 (take l.i l.s)
