-- The invariant of the loop of `packed::put_eights`.
-- Assumes nothing.
use Rattle.packed.proofs.Little.{Puts}
use Rattle.packed.proofs.put_eights.Given as goal

abbrev pub invariant-loop-i : goal.invariant-loop-i
invariant-loop-i l = Puts l.initial.out l.at l.numbers l.out l.i
