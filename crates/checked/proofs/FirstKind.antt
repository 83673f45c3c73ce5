-- The kind of fault that is found in a field with a check digit, a date or a list, as 01's number of it: the first whose condition holds.
-- Assumes nothing.
use mathlib.Core.Path.{◌≡◌, refl}
use mathlib.Core.Bool.{Bool, true, false, cond, not, ◌&&◌, ◌||◌}
use mathlib.Core.List.{List, [], ◌∷◌}
use Prim.Native.Nat.{ℕ}
use lib.ListN.{length}
use lib.Dec.{eqb}
use Rattle.base.specs.Bytes.{field}
use Rattle.base.specs.Tables.{Row, first_given}
use Rattle.base.proofs.Tables.{ByRows, through}
use Rattle.text.specs.Text.{is_blank}
use Rattle.digits.specs.Digits.{is_digits, number_of}
use Rattle.cdv.specs.Check.{satisfies, is_ean13}
use Rattle.account.specs.Account.{Good, first_eight, last_eight, account_rows, account_of}
use Rattle.calendar.specs.Calendar.{is_date, is_within, is_before}
use Rattle.calendar.specs.Workdays.{is_due}
use Rattle.calendar.specs.DateField.{date_field}
use Rattle.calendar.specs.declared.DateFault.TheVariants.{NotDigits, NoDate}
use Rattle.std.specs.Prelude.{Ok, Err}
use Rattle.findings.specs.declared.Kind.TheVariants as kind
use Rattle.findings.specs.Findings.{Finding, Right, unless, finding_number}
use Rattle.fields.specs.Fields.{digits_of}
use Rattle.fields.proofs.FirstKind.{right, must, must_not}
use Rattle.checked.specs.Checked.{is_tax_form, initiator_found, is_provider_form, provider_found}
use Rattle.checked.specs.Checked.{date_found, one_of_days, compiled_found, due_found, debit_found, bank_found, account_found}

-- initiator: form (3), check digit (5)
pub initiator : (s : List ℕ)
    → finding_number (initiator_found s)
    ≡ first_given
    ((3, not (is_tax_form s || digits_of 13 s))
    ∷ (5, not (cond (is_tax_form s) (satisfies (field 2 9 s)) (is_ean13 s)))
    ∷ [])
unfolding initiator_found
initiator s = go (is_tax_form s) (satisfies (field 2 9 s)) (digits_of 13 s) (is_ean13 s)
  where
    go : (x c d n : Bool)
        → finding_number (cond x (unless c kind.CheckDigit Right) (unless d kind.Form (unless n kind.CheckDigit Right)))
        ≡ first_given ((3, not (x || d)) ∷ (5, not (cond x c n)) ∷ [])
    go true c d n = (must c kind.CheckDigit right).is
    go false c d n = (must d kind.Form (must n kind.CheckDigit right)).is

-- initiator of a BESZED: form (3), check digit (5)
pub provider : (s : List ℕ)
    → finding_number (provider_found s)
    ≡ first_given
    ((3, not (is_provider_form s || (is_tax_form s || digits_of 13 s)))
    ∷ (5, not (cond (is_provider_form s || is_tax_form s) (satisfies (field 2 9 s)) (is_ean13 s)))
    ∷ [])
unfolding provider_found
provider s = go (is_provider_form s)
  where
    go : (p : Bool)
        → finding_number (cond p (unless (satisfies (field 2 9 s)) kind.CheckDigit Right) (initiator_found s))
        ≡ first_given
        ((3, not (p || (is_tax_form s || digits_of 13 s)))
        ∷ (5, not (cond (p || is_tax_form s) (satisfies (field 2 9 s)) (is_ean13 s)))
        ∷ [])
    go true = (must (satisfies (field 2 9 s)) kind.CheckDigit right).is
    go false = initiator s

-- a date field: not digits (4), no date (6), and then what is asked of the date
date : (asks : ℕ → Finding) (s : List ℕ) {rs : List Row} → ByRows finding_number (asks (number_of s)) rs
    → ByRows finding_number (date_found asks (date_field s)) ((4, not (digits_of 8 s)) ∷ (6, not (is_date (number_of s))) ∷ rs)
unfolding date_field
date asks s {rs} w = go (digits_of 8 s) (is_date (number_of s))
  where
    go : (d e : Bool) → ByRows finding_number (date_found asks (cond d (cond e (Ok (number_of s)) (Err NoDate)) (Err NotDigits))) ((4, not d) ∷ (6, not e) ∷ rs)
    go true true = record { is = w.is }
    go true false = record { is = refl }
    go false e = record { is = refl }

-- of which nothing is asked
pub date_field_lem : (s : List ℕ)
    → finding_number (date_found (λ d. Right) (date_field s)) ≡ first_given ((4, not (digits_of 8 s)) ∷ (6, not (is_date (number_of s))) ∷ [])
date_field_lem s = (date (λ d. Right) s right).is

-- date and due date: then outside the days (7)
on_days : (days : ℕ → Bool) (s : List ℕ)
    → finding_number (date_found (one_of_days days) (date_field s))
    ≡ first_given ((4, not (digits_of 8 s)) ∷ (6, not (is_date (number_of s))) ∷ (7, not (days (number_of s))) ∷ [])
on_days days s = (date (one_of_days days) s (must (days (number_of s)) kind.OutsideDays right)).is

pub compiled : (e : ℕ) (s : List ℕ)
    → finding_number (compiled_found e s)
    ≡ first_given ((4, not (digits_of 8 s)) ∷ (6, not (is_date (number_of s))) ∷ (7, not (is_within (number_of s) e 15)) ∷ [])
unfolding compiled_found
compiled e = on_days (λ d. is_within d e 15)

pub due : (e : ℕ) (s : List ℕ)
    → finding_number (due_found e s)
    ≡ first_given ((4, not (digits_of 8 s)) ∷ (6, not (is_date (number_of s))) ∷ (7, not (is_due e (number_of s))) ∷ [])
unfolding due_found
due e = on_days (is_due e)

-- debit date: then before E (7), refused by note 4 (12)
pub debit : (e c : ℕ) (s : List ℕ)
    → finding_number (debit_found e c s)
    ≡ first_given
    ((4, not (digits_of 8 s))
    ∷ (6, not (is_date (number_of s)))
    ∷ (7, is_before (number_of s) e)
    ∷ (12, not (is_within c (number_of s) 10))
    ∷ [])
unfolding debit_found
debit e c s =
    (date (λ d. unless (not (is_before d e)) kind.OutsideDays (unless (is_within c d 10) kind.Other Right)) s
    (must_not (is_before (number_of s) e) kind.OutsideDays (must (is_within c (number_of s) 10) kind.Other right))).is

-- bank: not digits (4), check digit (5), not listed (8)
pub bank : (is_listed : ℕ → Bool) (s : List ℕ)
    → finding_number (bank_found is_listed s)
    ≡ first_given ((4, not (digits_of 8 s)) ∷ (5, not (satisfies s)) ∷ (8, not (is_listed (number_of s))) ∷ [])
unfolding bank_found
bank is_listed s =
    (must (digits_of 8 s) kind.NotDigits (must (satisfies s) kind.CheckDigit (must (is_listed (number_of s)) kind.NotListed right))).is

-- account: form of the first eight (13), form of the last eight (14), check digit over eight (15), check digit over sixteen (16)
pub account : (s : List ℕ)
    → finding_number (account_found (account_of s))
    ≡ first_given
    ((13, not (eqb (length s) 16))
    ∷ (13, not (is_digits (first_eight s)))
    ∷ (14, not (is_digits (last_eight s) || is_blank (last_eight s)))
    ∷ (15, is_blank (last_eight s) && not (satisfies (first_eight s)))
    ∷ (16, is_digits (last_eight s) && not (satisfies s))
    ∷ [])
unfolding account_of
account s = through (λ a. finding_number (account_found a)) Good (account_rows s)
