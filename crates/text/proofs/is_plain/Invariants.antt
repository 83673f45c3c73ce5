-- The invariant of the loop of `text::is_plain`.
-- Assumes nothing.
use Rattle.std.proofs.Common.{◌≡◌, take}
use Rattle.text.specs.Text.{is_plain}
use Rattle.text.proofs.is_plain.Given as goal

abbrev pub invariant-loop-b : goal.invariant-loop-b
invariant-loop-b l = l.ok ≡ is_plain (take l.b-index l.s)
