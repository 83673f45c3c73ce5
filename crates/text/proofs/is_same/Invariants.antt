-- The invariant of the loop of `text::is_same`: what the bytes passed decided, with those that are left, decides as the whole does.
-- Assumes nothing.
use Rattle.std.proofs.Common.{◌≡◌, ◌&&◌, drop}
use Rattle.base.specs.Bytes.{same}
use Rattle.text.proofs.is_same.Given as goal

abbrev pub invariant-loop-i : goal.invariant-loop-i
invariant-loop-i l = l.ok && same (drop l.i l.s) (drop l.i l.t) ≡ same l.s l.t
