-- The invariant of the loop of `text::all_letters`.
-- Assumes nothing.
use Rattle.std.proofs.Common.{◌≡◌, take}
use Rattle.text.specs.Text.{is_text}
use Rattle.text.proofs.all_letters.Given as goal

abbrev pub invariant-loop-b : goal.invariant-loop-b
invariant-loop-b l = l.ok ≡ is_text (take l.b-index l.s)
