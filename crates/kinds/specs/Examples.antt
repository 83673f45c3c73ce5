-- The examples that 01 marks P, proved together by a single statement over a list (01, Examples).
-- Assumes nothing.
use Rattle.std.specs.Prelude.{ℕ, zero, suc, ◌-◌, ◌≡◌, refl, Bool, true, false, not, ◌&&◌, List, [], ◌∷◌, ◌++◌, length, take, replicate, eqb, Ok, Err}
use Rattle.base.specs.Bytes.{ascii}
use Rattle.digits.specs.Digits.{number_of}
use Rattle.cdv.specs.Check.{satisfies, is_ean13}
use Rattle.account.specs.Account.{account_of}
use Rattle.calendar.specs.Calendar.{leap, is_date, days_of_years, days_of_months, days_to, day_number, is_within, is_before}
use Rattle.calendar.specs.DateField.{date_field}
use Rattle.purposes.specs.Purposes.{purposes}
use Rattle.frame.specs.Records.{ending, ended, is_foot, items_in, rest_after}
use Rattle.frame.specs.Verdict.{findings, message_code}
use Rattle.findings.specs.Findings.{Finding}
use Rattle.findings.specs.Codes.{Rule, whole_code}
use Rattle.fields.specs.Fields.{place_found, amount_found}
use Rattle.checked.specs.Checked.{is_tax_form, initiator_found, compiled_found, debit_found, bank_found}
use Rattle.lent.specs.Lent.{Lent, lent}
use Rattle.atutal.specs.Tables as atutal
use Rattle.kinds.specs.Kinds.{kind_of, told_of, tables}
use Rattle.kinds.specs.Codes.{head_rules, item_rules, head_letter, head_code, item_found, foot_code, rules}

-- what an example is about, and what 01 says of it
pub data Example : Type 0 where
  -- digits: whether they satisfy the check digit
  CheckDigit : List ℕ → Bool → Example
  -- thirteen bytes: whether they are an initiator
  Initiator : List ℕ → Bool → Example
  -- a number: whether it is a date
  Date : ℕ → Bool → Example
  -- with E, the date of a head: its own code, by its row of the table
  HeadDate : ℕ → List ℕ → ℕ → Example
  -- with what is lent, a message: its code
  Message : Lent → List ℕ → ℕ → Example

abbrev pub agree : Bool → Bool → Bool
agree true b = b
agree false b = not b

abbrev pub is_right : Finding → Bool
is_right (Ok u) = true
is_right (Err k) = false

-- the code by the k-th row of a table, from 0
abbrev pub code_by : ℕ → List Rule → ℕ
code_by k [] = 0
code_by zero (r ∷ rs) = whole_code r.code r.found
code_by (suc k) (r ∷ rs) = code_by k rs

-- the date's row is the head's sixth; what stands elsewhere in the head doesn't count
abbrev pub date_code : ℕ → List ℕ → ℕ
date_code e date = code_by 5 (atutal.head_rules e (λ x. false) [] (replicate 22 0x20 ++ date))

-- the definitions say what 01 says
abbrev pub holds : Example → Bool
holds (CheckDigit s b) = agree (satisfies s) b
holds (Initiator s b) = agree (is_right (initiator_found s)) b
holds (Date n b) = agree (is_date n) b
holds (HeadDate e s c) = eqb (date_code e s) c
holds (Message l m c) = eqb (message_code (rules l) m) c

abbrev pub all : List Example → Bool
all [] = true
all (x ∷ xs) = holds x && all xs

-- a field of n bytes: a text, and spaces after it
abbrev pub padded : ℕ → List ℕ → List ℕ
padded n s = s ++ replicate (n - length s) 0x20

-- a message of one item, with a duplicate code and a date; number 0001 of the initiator A12345676T001, to be debited on 20200310
abbrev pub one_item : List ℕ → List ℕ → List ℕ
one_item duplicate date =
    ascii "01ATUTAL" ++ duplicate ++ ascii "A12345676T001" ++ date ++ ascii "0001"  -- 1-34
    ++ ascii "1600000912345676        20200310MUN"  -- 35-69
    ++ padded 105 (ascii "Minta Kft.")  -- 70-174
    ++ ending
    ++ ascii "02000001202003110000312400610000091234567600001238"  -- 1-50
    ++ padded 24 (ascii "DOLGOZO-0001")  -- 51-74
    ++ padded 70 (ascii "Kovacs Anna")  -- 75-144
    ++ padded 105 (ascii "Kovacs Anna")  -- 145-249
    ++ ending
    ++ ascii "030000010000000000312400"
    ++ ending

-- what is lent with it: E, the banks that it names, no known identifier, no barred bank
abbrev pub given : Lent
given = lent 20200310 (16000009 ∷ 61000009 ∷ []) [] []

-- in 01's order
abbrev pub examples : List Example
examples =
    CheckDigit (ascii "12345676") true
    ∷ CheckDigit (ascii "12345677") false
    ∷ CheckDigit (ascii "00000000") true
    ∷ CheckDigit (ascii "16000009") true
    ∷ CheckDigit (ascii "61000009") true
    ∷ Initiator (ascii "A12345676T001") true
    ∷ Initiator (ascii "5990000000009") true
    ∷ Initiator (ascii "5990000000008") false
    ∷ Date 20200229 true
    ∷ Date 20190229 false
    ∷ Date 21000229 false
    ∷ HeadDate 20200310 (ascii "20200224") 0
    ∷ HeadDate 20200310 (ascii "20200223") 44
    ∷ HeadDate 20200310 (ascii "20200311") 44
    ∷ Message (lent 20200310 [] [] []) [] 26
    ∷ Message given (one_item (ascii "0") (ascii "20200301")) 0
    ∷ Message given (take 452 (one_item (ascii "0") (ascii "20200301"))) 26
    ∷ Message given (one_item (ascii "X") (ascii "20200301")) 42
    ∷ Message given (one_item (ascii "0") (ascii "20200223")) 44
    ∷ Message given (one_item (ascii "0") (ascii "20200311")) 44
    ∷ []

-- the message of one item has 453 bytes
pub one_item_453 : length (one_item (ascii "0") (ascii "20200301")) ≡ 453
one_item_453 = refl

pub as_01_says : all examples ≡ true
unfolding satisfies is_ean13 is_tax_form initiator_found leap is_date days_of_years days_of_months days_to day_number is_within is_before number_of date_field
    account_of purposes place_found amount_found bank_found compiled_found debit_found atutal.head_rules atutal.item_rules kind_of told_of tables
    head_rules item_rules head_letter head_code item_found foot_code ended is_foot items_in rest_after findings message_code
as_01_says = refl
