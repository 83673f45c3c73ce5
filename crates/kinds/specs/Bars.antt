-- Examples of barred banks, computed at once (02, #105; 002 section 1.3.1, note 4).
-- Assumes nothing.
use Rattle.std.specs.Prelude.{ℕ, ◌≡◌, refl, List, [], ◌∷◌, map}
use Rattle.base.specs.Bytes.{ascii}
use Rattle.digits.specs.Digits.{number_of}
use Rattle.cdv.specs.Check.{satisfies, is_ean13}
use Rattle.account.specs.Account.{account_of, is_zero_account}
use Rattle.calendar.specs.Calendar.{leap, is_date, days_of_years, days_of_months, days_to, day_number, is_within, is_before}
use Rattle.calendar.specs.DateField.{date_field}
use Rattle.calendar.specs.Workdays.{soonest, next_workday, workday_after, is_due}
use Rattle.purposes.specs.Purposes.{purposes}
use Rattle.frame.specs.Records.{ended, is_foot, items_in, rest_after}
use Rattle.frame.specs.Verdict.{findings, found_in, message_code}
use Rattle.fields.specs.Fields.{place_found, amount_found}
use Rattle.checked.specs.Checked.{is_tax_form, initiator_found, is_provider_form, provider_found, compiled_found, debit_found, due_found, bank_found}
use Rattle.lent.specs.Lent.{lent}
use Rattle.atutal.specs.Tables as atutal
use Rattle.beszed.specs.Tables as beszed
use Rattle.kinds.specs.Kinds.{kind_of, told_of, tables}
use Rattle.kinds.specs.Codes.{head_rules, item_rules, head_letter, head_code, item_found, foot_code, rules}
use Rattle.kinds.specs.Examples.{one_item}
use Rattle.kinds.specs.Debits.{one_debit}

-- a message of one item, with a bank list and a barred list: its code, and its items'
abbrev judged : List ℕ → List ℕ → List ℕ → List ℕ
judged m banks barred =
    message_code (rules (lent 20200310 banks [] barred)) m ∷ map (λ f. f.code) (found_in (rules (lent 20200310 banks [] barred)) m)

abbrev transfer : List ℕ
transfer = one_item (ascii "0") (ascii "20200301")

abbrev debit : List ℕ
debit = one_debit (ascii "BESZED0E12345676    ") (ascii "Minta Zrt.") (ascii "20200320")

-- the head's bank is 16000009: barred and listed; barred and not listed; not barred; and a BESZED under the first lists
pub as_02_says :
    judged transfer (16000009 ∷ 61000009 ∷ []) (5 ∷ 160 ∷ [])
    ∷ judged transfer (61000009 ∷ []) (5 ∷ 160 ∷ [])
    ∷ judged transfer (16000009 ∷ 61000009 ∷ []) (16 ∷ 161 ∷ [])
    ∷ judged debit (16000009 ∷ 61000009 ∷ []) (5 ∷ 160 ∷ [])
    ∷ []
    ≡ (0 ∷ 14 ∷ []) ∷ (1 ∷ 14 ∷ []) ∷ (0 ∷ 0 ∷ []) ∷ (0 ∷ 0 ∷ []) ∷ []
unfolding satisfies is_ean13 is_tax_form initiator_found is_provider_form provider_found leap is_date days_of_years days_of_months days_to day_number is_within
    is_before number_of date_field soonest next_workday workday_after is_due account_of is_zero_account purposes place_found amount_found bank_found
    compiled_found debit_found due_found atutal.head_rules atutal.item_rules beszed.head_rules beszed.item_rules kind_of told_of tables head_rules item_rules
    head_letter head_code item_found foot_code ended is_foot items_in rest_after findings message_code
as_02_says = refl
