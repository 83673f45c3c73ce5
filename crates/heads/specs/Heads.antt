-- What is found in the fields of a head of either kind, in one row of fields (002 sections 1.1.1 and 2.1.1); the table of its kind
-- stands in `kinds`, and the code is that table's.
-- Assumes nothing.
use Rattle.std.specs.Prelude.{ℕ, Bool, cond, List, [], ◌∷◌, length, eqb}
use Rattle.base.specs.Bytes.{ascii, field}
use Rattle.digits.specs.Digits.{number_of}
use Rattle.account.specs.Account.{account_of}
use Rattle.frame.specs.Records.{lengths}
use Rattle.findings.specs.Findings.{Right}
use Rattle.findings.specs.declared.Answer.TheVariants as named
use Rattle.findings.specs.Codes.{Ü, Rule, rule, always}
use Rattle.fields.specs.Fields.{mark_found, duplicate_found, digit_found, identifier_found, number_found, purpose_found, name_found, filled_found}
use Rattle.checked.specs.Checked.{initiator_found, provider_found, compiled_found, debit_found, bank_found, account_found}
use Rattle.kinds.specs.Kinds.{kind_of, is_beszed}
use Rattle.kinds.specs.Codes.{head_letter, head_code}
use Rattle.heads.specs.declared.HeadFound.{HeadFound}
use Rattle.heads.specs.declared.HeadFindings.{HeadFindings}

-- 1.1.1: with E, which banks are listed, and the known list
unfoldable pub atutal_fields : ℕ → (ℕ → Bool) → List ℕ → List ℕ → HeadFindings
atutal_fields e is_listed known r =
    record {
      mark = mark_found (ascii "01") (field 1 2 r);
      message = mark_found (ascii "ATUTAL") (field 3 8 r);
      duplicate = duplicate_found (field 9 9 r);
      initiator = initiator_found (field 10 22 r);
      identifier = identifier_found known (field 10 34 r);
      date = compiled_found e (field 23 30 r);
      number = number_found 4 (field 31 34 r);
      bank = bank_found is_listed (field 35 42 r);
      account = account_found (account_of (field 43 58 r));
      debit = debit_found e (number_of (field 23 30 r)) (field 59 66 r);
      purpose = purpose_found (field 67 69 r);
      name = name_found (field 70 104 r);
    }

-- 2.1.1, where it differs: duplicate code, initiator and name have rules of their own, message type and debit date none
unfoldable pub as_beszed : List ℕ → HeadFindings → HeadFindings
as_beszed r f =
    record {
      mark = f.mark;
      message = Right;
      duplicate = digit_found (field 9 9 r);
      initiator = provider_found (field 10 22 r);
      identifier = f.identifier;
      date = f.date;
      number = f.number;
      bank = f.bank;
      account = f.account;
      debit = Right;
      purpose = f.purpose;
      name = filled_found (field 70 104 r);
    }

-- by the kind that the head tells
unfoldable pub head_fields : ℕ → (ℕ → Bool) → List ℕ → List ℕ → HeadFindings
head_fields e is_listed known r =
    cond (is_beszed (kind_of r)) (as_beszed r (atutal_fields e is_listed known r)) (atutal_fields e is_listed known r)

-- and the codes that follow: the fields of both kinds in their order; one that a kind has no rule for is right
unfoldable pub head_rules_of : HeadFindings → List Rule
head_rules_of f =
    rule named.Type (always (Ü 41)) f.mark
    ∷ rule named.MessageType (always (Ü 9)) f.message
    ∷ rule named.DuplicateCode (always (Ü 42)) f.duplicate
    ∷ rule named.Initiator (always (Ü 43)) f.initiator
    ∷ rule named.Identifier (always (Ü 29)) f.identifier
    ∷ rule named.Date (always (Ü 44)) f.date
    ∷ rule named.Number (always (Ü 2)) f.number
    ∷ rule named.Bank (always (Ü 1)) f.bank
    ∷ rule named.Account (always (Ü 45)) f.account
    ∷ rule named.DebitDate (always (Ü 7)) f.debit
    ∷ rule named.Purpose (always (Ü 48)) f.purpose
    ∷ rule named.Name (always (Ü 43)) f.name
    ∷ []

-- what is found in the fields of bytes of any length: nothing where that isn't a head's
unfoldable pub head_findings : ℕ → (ℕ → Bool) → List ℕ → List ℕ → HeadFindings
head_findings e is_listed known r =
    cond (eqb (length r) lengths.head)
    (head_fields e is_listed known r)
    (record {
      mark = Right;
      message = Right;
      duplicate = Right;
      initiator = Right;
      identifier = Right;
      date = Right;
      number = Right;
      bank = Right;
      account = Right;
      debit = Right;
      purpose = Right;
      name = Right;
    })

-- a bad letter in a head's text, and the code of its first fault
unfoldable pub head_found : ℕ → (ℕ → Bool) → List ℕ → List ℕ → HeadFound
head_found e is_listed known r = record { letter = head_letter r; code = head_code e is_listed known r }
