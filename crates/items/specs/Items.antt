-- What is found in the fields of an item of either kind, in one row of fields (002 sections 1.3.1 and 2.3.1); the table of its kind
-- stands in `kinds`, and the codes are that table's.
-- Assumes nothing.
use Rattle.std.specs.Prelude.{ℕ, Bool, cond, List, [], ◌∷◌, length, eqb}
use Rattle.base.specs.Bytes.{ascii, field}
use Rattle.account.specs.Account.{account_of}
use Rattle.frame.specs.Records.{lengths}
use Rattle.findings.specs.Findings.{Finding, Right}
use Rattle.findings.specs.declared.Answer.TheVariants as named
use Rattle.findings.specs.Codes.{Ü, T, Rule, rule, always, digits_else}
use Rattle.fields.specs.Fields.{mark_found, place_found, amount_of, filled_found}
use Rattle.checked.specs.Checked.{due_found, bank_found, account_found}
use Rattle.kinds.specs.Kinds.{is_beszed}
use Rattle.items.specs.declared.item.ItemFindings.{ItemFindings}

-- the due date of a BESZED; an ATUTAL's positions 9-16 have no rule
unfoldable pub due_in : ℕ → ℕ → List ℕ → Finding
due_in kind e s = cond (is_beszed kind) (due_found e s) Right

-- what is found in each field, by the kind, E, which banks are listed and the item's place
unfoldable pub item_fields : ℕ → ℕ → (ℕ → Bool) → ℕ → List ℕ → ItemFindings
item_fields kind e is_listed k r =
    record {
      mark = mark_found (ascii "02") (field 1 2 r);
      number = place_found k (field 3 8 r);
      due = due_in kind e (field 9 16 r);
      amount = amount_of (field 17 26 r);
      bank = bank_found is_listed (field 27 34 r);
      account = account_found (account_of (field 35 50 r));
      customer = filled_found (field 51 74 r);
      owner = filled_found (field 145 179 r);
    }

-- and the codes that follow
unfoldable pub rules_of : ItemFindings → List Rule
rules_of f =
    rule named.Type (always (Ü 46)) f.mark
    ∷ rule named.ItemNumber (digits_else (T 39) (T 32)) f.number
    ∷ rule named.DueDate (always (T 33)) f.due
    ∷ rule named.Amount (digits_else (Ü 34) (T 16)) f.amount.found
    ∷ rule named.Bank (always (T 37)) f.bank
    ∷ rule named.Account (always (T 61)) f.account
    ∷ rule named.CustomerId (always (T 63)) f.customer
    ∷ rule named.Owner (always (T 62)) f.owner
    ∷ []

-- what is found in the fields of bytes of any length: nothing where that isn't an item's
unfoldable pub item_findings : ℕ → ℕ → (ℕ → Bool) → ℕ → List ℕ → ItemFindings
item_findings kind e is_listed k r =
    cond (eqb (length r) lengths.item)
    (item_fields kind e is_listed k r)
    (record {
      mark = Right;
      number = Right;
      due = Right;
      amount = record { value = 0; found = Right };
      bank = Right;
      account = Right;
      customer = Right;
      owner = Right;
    })
