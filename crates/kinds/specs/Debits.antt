-- Examples of BESZED messages, each group computed at once (02, #101; 002 sections 2.1.1 and 2.3.1).
-- Assumes nothing.
use Rattle.std.specs.Prelude.{ℕ, ◌≡◌, refl, List, [], ◌∷◌, ◌++◌, map, take}
use Rattle.base.specs.Bytes.{ascii}
use Rattle.digits.specs.Digits.{number_of}
use Rattle.cdv.specs.Check.{satisfies, is_ean13}
use Rattle.account.specs.Account.{account_of, is_zero_account}
use Rattle.calendar.specs.Calendar.{leap, is_date, days_of_years, days_of_months, days_to, day_number, is_within, is_before}
use Rattle.calendar.specs.DateField.{date_field}
use Rattle.calendar.specs.Workdays.{soonest, next_workday, workday_after, is_due}
use Rattle.purposes.specs.Purposes.{purposes}
use Rattle.frame.specs.Records.{ending, ended, is_foot, items_in, rest_after}
use Rattle.frame.specs.Verdict.{findings, found_in, message_code, told_by}
use Rattle.fields.specs.Fields.{place_found, amount_found}
use Rattle.checked.specs.Checked.{is_tax_form, initiator_found, is_provider_form, provider_found, compiled_found, debit_found, due_found, bank_found}
use Rattle.atutal.specs.Tables as atutal
use Rattle.beszed.specs.Tables as beszed
use Rattle.kinds.specs.Kinds.{ATUTAL, BESZED, kind_of, told_of, tables}
use Rattle.kinds.specs.Codes.{head_rules, item_rules, head_letter, head_code, item_found, foot_code, rules}
use Rattle.kinds.specs.Examples.{padded, given}

-- a message of one item, with its positions 3-22, the head's name and the due date
abbrev pub one_debit : List ℕ → List ℕ → List ℕ → List ℕ
one_debit sender name due =
    ascii "01" ++ sender ++ ascii "202003010001"  -- 1-34
    ++ ascii "1600000912345676        anybyteyVIL"  -- 35-69
    ++ padded 105 name  -- 70-174
    ++ ending
    ++ ascii "02000001" ++ due ++ ascii "0000312400610000091234567600001238"  -- 1-50
    ++ padded 24 (ascii "FOGYASZTO-0001")  -- 51-74
    ++ padded 70 (ascii "Kovacs Anna")  -- 75-144
    ++ padded 105 (ascii "Kovacs Anna")  -- 145-249
    ++ ending
    ++ ascii "030000010000000000312400"
    ++ ending

-- with E 20200310, a Tuesday, the code of its item by the due date
abbrev codes : List ℕ → List ℕ
codes due = map (λ f. f.code) (found_in (rules given) (one_debit (ascii "BESZED0E12345676    ") (ascii "Minta Zrt.") due))

pub due_dates :
    map codes (ascii "20200310" ∷ ascii "20200314" ∷ ascii "20200320" ∷ ascii "20200309" ∷ ascii "20200321" ∷ ascii "20200323" ∷ [])
    ≡ (0 ∷ []) ∷ (0 ∷ []) ∷ (0 ∷ []) ∷ (33 ∷ []) ∷ (33 ∷ []) ∷ (33 ∷ []) ∷ []
unfolding satisfies is_ean13 is_tax_form initiator_found is_provider_form provider_found leap is_date days_of_years days_of_months days_to day_number is_within
    is_before number_of date_field soonest next_workday workday_after is_due account_of is_zero_account place_found amount_found bank_found due_found
    beszed.head_rules beszed.item_rules kind_of told_of tables head_rules item_rules item_found ended is_foot items_in rest_after findings
due_dates = refl

-- its kind and its code
abbrev told : List ℕ → List ℕ
told m = (told_by (rules given) m).kind ∷ message_code (rules given) m ∷ []

-- good; a duplicate code @; an initiator as of ATUTAL; a name of zeros; another message type, which the rules of ATUTAL refuse; the head
-- alone; and a head that is cut short
pub kinds_and_codes :
    map told
    (one_debit (ascii "BESZED0E12345676    ") (ascii "Minta Zrt.") (ascii "20200320")
    ∷ one_debit (ascii "BESZED@E12345676    ") (ascii "Minta Zrt.") (ascii "20200320")
    ∷ one_debit (ascii "BESZED0A12345676T001") (ascii "Minta Zrt.") (ascii "20200320")
    ∷ one_debit (ascii "BESZED0E12345676    ") (ascii "0000") (ascii "20200320")
    ∷ one_debit (ascii "BESZEd0E12345676    ") (ascii "Minta Zrt.") (ascii "20200320")
    ∷ take 176 (one_debit (ascii "BESZED0E12345676    ") (ascii "Minta Zrt.") (ascii "20200320"))
    ∷ take 175 (one_debit (ascii "BESZED0E12345676    ") (ascii "Minta Zrt.") (ascii "20200320"))
    ∷ [])
    ≡ (BESZED ∷ 0 ∷ [])
    ∷ (BESZED ∷ 42 ∷ [])
    ∷ (BESZED ∷ 0 ∷ [])
    ∷ (BESZED ∷ 43 ∷ [])
    ∷ (ATUTAL ∷ 9 ∷ [])
    ∷ (BESZED ∷ 26 ∷ [])
    ∷ (ATUTAL ∷ 26 ∷ [])
    ∷ []
unfolding satisfies is_ean13 is_tax_form initiator_found is_provider_form provider_found leap is_date days_of_years days_of_months days_to day_number is_within
    is_before number_of date_field soonest next_workday workday_after is_due account_of is_zero_account purposes place_found amount_found bank_found
    compiled_found debit_found due_found atutal.head_rules atutal.item_rules beszed.head_rules beszed.item_rules kind_of told_of tables head_rules item_rules
    head_letter head_code item_found foot_code ended is_foot items_in rest_after findings message_code told_by
kinds_and_codes = refl
