-- What is found in fields with a check digit, a date or a list: nothing wrong, or the kind of its first fault, in 01's order of kinds
-- (01, Faults of the whole message; Item rules; Digits and dates; 002 sections 1.1.1, 1.3.1, 2.1.1 and 2.3.1).
-- Assumes nothing.
use Rattle.std.specs.Prelude.{ℕ, Bool, cond, not, ◌&&◌, List, length, eqb, Ok, Err}
use Rattle.base.specs.Bytes.{ascii, field, same}
use Rattle.text.specs.Text.{is_blank}
use Rattle.digits.specs.Digits.{is_digits, number_of}
use Rattle.cdv.specs.Check.{satisfies, is_ean13}
use Rattle.account.specs.Account.{Account}
use Rattle.calendar.specs.Calendar.{is_within, is_before}
use Rattle.calendar.specs.Workdays.{is_due}
use Rattle.calendar.specs.DateField.{DateField, date_field}
use Rattle.findings.specs.declared.Kind.TheVariants.{Form, NotDigits, CheckDigit, OutsideDays, NotListed, Other}
use Rattle.findings.specs.Findings.{Finding, Right, unless, date_kind, account_kind}
use Rattle.fields.specs.Fields.{digits_of}

-- a tax number: A, eight digits, T, three digits
unfoldable pub is_tax_form : List ℕ → Bool
is_tax_form s =
    eqb (length s) 13
    && (same (field 1 1 s) (ascii "A") && (is_digits (field 2 9 s) && (same (field 10 10 s) (ascii "T") && is_digits (field 11 13 s))))

-- initiator: a tax number that satisfies the check digit, or an EAN-13
unfoldable pub initiator_found : List ℕ → Finding
initiator_found s =
    cond (is_tax_form s)
    (unless (satisfies (field 2 9 s)) CheckDigit Right)
    (unless (digits_of 13 s) Form (unless (is_ean13 s) CheckDigit Right))

-- a service provider's number: E, eight digits, four spaces (002 2.1, Ebbbsssss)
unfoldable pub is_provider_form : List ℕ → Bool
is_provider_form s = eqb (length s) 13 && (same (field 1 1 s) (ascii "E") && (is_digits (field 2 9 s) && is_blank (field 10 13 s)))

-- initiator of a BESZED: a service provider's number that satisfies the check digit, or an initiator as above (02 #101)
unfoldable pub provider_found : List ℕ → Finding
provider_found s = cond (is_provider_form s) (unless (satisfies (field 2 9 s)) CheckDigit Right) (initiator_found s)

-- what is found in a date field, and what is asked of a date
abbrev pub date_found : (ℕ → Finding) → DateField → Finding
date_found asks (Ok d) = asks d
date_found asks (Err f) = Err (date_kind f)

-- of a date is asked that it is one of certain days
abbrev pub one_of_days : (ℕ → Bool) → ℕ → Finding
one_of_days days d = unless (days d) OutsideDays Right

-- date: from E-15 to E
unfoldable pub compiled_found : ℕ → List ℕ → Finding
compiled_found e s = date_found (one_of_days (λ d. is_within d e 15)) (date_field s)

-- due date: from E to the eighth workday after E (002 2.3.1 note 1)
unfoldable pub due_found : ℕ → List ℕ → Finding
due_found e s = date_found (one_of_days (is_due e)) (date_field s)

-- debit date: not before E; by note 4 of 1.1.1 from the date c to ten days after it
abbrev pub debit_day : ℕ → ℕ → ℕ → Finding
debit_day e c d = unless (not (is_before d e)) OutsideDays (unless (is_within c d 10) Other Right)

unfoldable pub debit_found : ℕ → ℕ → List ℕ → Finding
debit_found e c s = date_found (debit_day e c) (date_field s)

-- bank: eight digits that satisfy the check digit, listed
unfoldable pub bank_found : (ℕ → Bool) → List ℕ → Finding
bank_found is_listed s =
    unless (digits_of 8 s) NotDigits (unless (satisfies s) CheckDigit (unless (is_listed (number_of s)) NotListed Right))

-- account: the form of its halves, then its check digit (02 #102)
abbrev pub account_found : Account → Finding
account_found (Ok u) = Right
account_found (Err f) = Err (account_kind f)
