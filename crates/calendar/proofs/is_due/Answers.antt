-- `calendar::is_due` meets its contract: what is no date has day number 0, and the eighth workday lies as far on as its table says.
-- Assumes nothing.
use native.Mathlib.Omega.{arith}
use Rattle.std.proofs.lemmas.Grind.{common_steps}
use Rattle.calendar.specs.Workdays.{is_due}
use Rattle.calendar.proofs.Dates.{no_number, from_one}
use Rattle.calendar.proofs.Workdays.{eighth}
use Rattle.calendar.proofs.is_due.Goals as goal

pub returns-then-b-a : goal.returns-then-b-a
unfolding is_due
returns-then-b-a c = grind (arith, common_steps, no_number, from_one, eighth)

pub returns : goal.returns
unfolding is_due
returns c = grind (arith, common_steps, no_number, from_one, eighth)
