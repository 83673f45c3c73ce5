-- The invariant of the loop of `cover::codes::items_code`.
-- Assumes nothing.
use Rattle.cover.proofs.Parts.{Faultless}
use Rattle.cover.proofs.codes.items_code.Given as goal

abbrev pub invariant-loop-i : goal.invariant-loop-i
invariant-loop-i l = Faultless l.items l.i-iterator
