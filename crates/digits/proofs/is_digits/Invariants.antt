-- The invariant of the loop of `digits::is_digits`.
-- Assumes nothing.
use Rattle.std.proofs.Common.{◌≡◌, take}
use Rattle.digits.specs.Digits.{is_digits}
use Rattle.digits.proofs.is_digits.Given as goal

abbrev pub invariant-loop-b : goal.invariant-loop-b
invariant-loop-b l = l.ok ≡ is_digits (take l.b-index l.s)
