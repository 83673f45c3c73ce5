-- The invariant of the loop of `letters::fits`.
-- Assumes nothing.
use Rattle.letters.proofs.Shown.{Left}
use Rattle.letters.proofs.Shown.{Left}
use Rattle.letters.proofs.fits.Given as goal

abbrev pub invariant-loop-b : goal.invariant-loop-b
invariant-loop-b l = Left l.s l.room l.b-index l.left
