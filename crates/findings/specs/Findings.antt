-- What a test of a field finds, and the number of each kind of fault (01, Calls and their answers; 02 #102).
-- Assumes nothing.
use Rattle.std.specs.Prelude.{ℕ, Bool, true, false, Result, Ok, Err, ⊤}
use Rattle.account.specs.declared.AccountFault.{AccountFault}
use Rattle.account.specs.declared.AccountFault.TheVariants as account
use Rattle.calendar.specs.declared.DateFault.{DateFault}
use Rattle.calendar.specs.declared.DateFault.TheVariants as date
use Rattle.findings.specs.declared.Kind.{Kind}
use Rattle.findings.specs.declared.Kind.TheVariants.{Letter, Mark, Form, NotDigits, CheckDigit, NoDate}
use Rattle.findings.specs.declared.Kind.TheVariants.{OutsideDays, NotListed, Known, BlankOrZero, OutOfOrder, Other}
use Rattle.findings.specs.declared.Kind.TheVariants.{FormOfFirstEight, FormOfLastEight, CheckDigitOverEight, CheckDigitOverSixteen}

-- what is found: nothing wrong, or the kind of the first fault
abbrev pub Finding : Type 0
Finding = Result ⊤ Kind

abbrev pub Right : Finding
Right = Ok tt

-- what one test finds, and then what is found further on
abbrev pub unless : Bool → Kind → Finding → Finding
unless true k f = f
unless false k f = Err k

-- the number of a kind: its place in 01's list, and then those of 02 #102, so that the first twelve stay
abbrev pub kind_number : Kind → ℕ
kind_number Letter = 1
kind_number Mark = 2
kind_number Form = 3
kind_number NotDigits = 4
kind_number CheckDigit = 5
kind_number NoDate = 6
kind_number OutsideDays = 7
kind_number NotListed = 8
kind_number Known = 9
kind_number BlankOrZero = 10
kind_number OutOfOrder = 11
kind_number Other = 12
kind_number FormOfFirstEight = 13
kind_number FormOfLastEight = 14
kind_number CheckDigitOverEight = 15
kind_number CheckDigitOverSixteen = 16

-- the number of what is found: 0 for nothing wrong, else that of the kind
abbrev pub finding_number : Finding → ℕ
finding_number (Ok u) = 0
finding_number (Err k) = kind_number k

-- why a field holds no date, as a kind of fault
abbrev pub date_kind : DateFault → Kind
date_kind date.NotDigits = NotDigits
date_kind date.NoDate = NoDate

-- and why it holds no account (02 #102)
abbrev pub account_kind : AccountFault → Kind
account_kind account.FormOfFirstEight = FormOfFirstEight
account_kind account.FormOfLastEight = FormOfLastEight
account_kind account.CheckDigitOverEight = CheckDigitOverEight
account_kind account.CheckDigitOverSixteen = CheckDigitOverSixteen
