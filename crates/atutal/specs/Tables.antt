-- The field rules of ATUTAL, group transfers: head and item as tables, in the standard's order with its positions
-- (01, Faults of the whole message; Item rules; 002 sections 1.1.1 and 1.3.1).
-- Assumes nothing.
use Rattle.std.specs.Prelude.{ℕ, Bool, List, [], ◌∷◌}
use Rattle.base.specs.Bytes.{ascii, field}
use Rattle.digits.specs.Digits.{number_of}
use Rattle.account.specs.Account.{account_of}
use Rattle.findings.specs.declared.Answer.TheVariants as named
use Rattle.findings.specs.Codes.{Ü, T, Rule, rule, always, digits_else}
use Rattle.fields.specs.Fields.{mark_found, duplicate_found, identifier_found, number_found, purpose_found, name_found, place_found, amount_found, filled_found}
use Rattle.checked.specs.Checked.{initiator_found, compiled_found, debit_found, bank_found, account_found}

-- 1.1.1: the fields of a head, with E, which banks are listed, and the known list
unfoldable pub head_rules : ℕ → (ℕ → Bool) → List ℕ → List ℕ → List Rule
head_rules e is_listed known r =
    rule named.Type (always (Ü 41)) (mark_found (ascii "01") (field 1 2 r))
    ∷ rule named.MessageType (always (Ü 9)) (mark_found (ascii "ATUTAL") (field 3 8 r))
    ∷ rule named.DuplicateCode (always (Ü 42)) (duplicate_found (field 9 9 r))
    ∷ rule named.Initiator (always (Ü 43)) (initiator_found (field 10 22 r))
    ∷ rule named.Identifier (always (Ü 29)) (identifier_found known (field 10 34 r))
    ∷ rule named.Date (always (Ü 44)) (compiled_found e (field 23 30 r))
    ∷ rule named.Number (always (Ü 2)) (number_found 4 (field 31 34 r))
    ∷ rule named.Bank (always (Ü 1)) (bank_found is_listed (field 35 42 r))
    ∷ rule named.Account (always (Ü 45)) (account_found (account_of (field 43 58 r)))
    ∷ rule named.DebitDate (always (Ü 7)) (debit_found e (number_of (field 23 30 r)) (field 59 66 r))
    ∷ rule named.Purpose (always (Ü 48)) (purpose_found (field 67 69 r))
    ∷ rule named.Name (always (Ü 43)) (name_found (field 70 104 r))
    ∷ []

-- 1.3.1: the fields of an item, with which banks are listed and its place
unfoldable pub item_rules : (ℕ → Bool) → ℕ → List ℕ → List Rule
item_rules is_listed k r =
    rule named.Type (always (Ü 46)) (mark_found (ascii "02") (field 1 2 r))
    ∷ rule named.ItemNumber (digits_else (T 39) (T 32)) (place_found k (field 3 8 r))
    ∷ rule named.Amount (digits_else (Ü 34) (T 16)) (amount_found (field 17 26 r))
    ∷ rule named.Bank (always (T 37)) (bank_found is_listed (field 27 34 r))
    ∷ rule named.Account (always (T 61)) (account_found (account_of (field 35 50 r)))
    ∷ rule named.CustomerId (always (T 63)) (filled_found (field 51 74 r))
    ∷ rule named.Owner (always (T 62)) (filled_found (field 145 179 r))
    ∷ []
