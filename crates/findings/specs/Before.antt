-- What is found, by the twelve kinds that 01 lists: the four of 02 #102 as the kinds that they came from.
-- Assumes nothing.
use Rattle.findings.specs.declared.Kind.{Kind}
use Rattle.findings.specs.declared.Kind.TheVariants.{Letter, Mark, Form, NotDigits, CheckDigit, NoDate}
use Rattle.findings.specs.declared.Kind.TheVariants.{OutsideDays, NotListed, Known, BlankOrZero, OutOfOrder, Other}
use Rattle.findings.specs.declared.Kind.TheVariants.{FormOfFirstEight, FormOfLastEight, CheckDigitOverEight, CheckDigitOverSixteen}
use Rattle.findings.specs.Findings.{Finding}
use Rattle.std.specs.Prelude.{Ok, Err}
use Rattle.findings.specs.Codes.{Rule, rule}

-- the kind of 01 that a kind came from; one of 01's is its own
abbrev pub came_from : Kind → Kind
came_from Letter = Letter
came_from Mark = Mark
came_from Form = Form
came_from FormOfFirstEight = Form
came_from FormOfLastEight = Form
came_from NotDigits = NotDigits
came_from CheckDigit = CheckDigit
came_from CheckDigitOverEight = CheckDigit
came_from CheckDigitOverSixteen = CheckDigit
came_from NoDate = NoDate
came_from OutsideDays = OutsideDays
came_from NotListed = NotListed
came_from Known = Known
came_from BlankOrZero = BlankOrZero
came_from OutOfOrder = OutOfOrder
came_from Other = Other

abbrev pub found_before : Finding → Finding
found_before (Ok u) = (Ok u)
found_before (Err k) = Err (came_from k)

abbrev pub rule_before : Rule → Rule
rule_before r = rule r.named r.code (found_before r.found)
