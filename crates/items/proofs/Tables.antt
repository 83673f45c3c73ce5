-- The codes of an item from its findings, and that they are those of the table of its kind: a row that is right has no code and names nothing.
-- Assumes nothing.
use mathlib.Core.Path.{◌≡◌, refl, ◌∙◌}
use mathlib.Core.Bool.{Bool, true, false, cond}
use mathlib.Core.List.{List}
use Prim.Native.Nat.{ℕ}
use Rattle.frame.specs.Machine.{earlier}
use Rattle.base.specs.Bytes.{field}
use Rattle.items.specs.declared.item.ItemFindings.{ItemFindings}
use Rattle.findings.specs.Findings.{Finding, Right}
use Rattle.findings.specs.Codes.{Ü, T, Rule, always, digits_else, whole_code, item_code, first_whole, first_alone, either_code}
use Rattle.findings.specs.Naming.{first_named}
use Rattle.checked.specs.Checked.{due_found}
use Rattle.atutal.specs.Tables as atutal
use Rattle.beszed.specs.Tables as beszed
use Rattle.kinds.specs.Kinds.{is_beszed, Tables, tables}
use Rattle.kinds.specs.Codes.{item_rules}
use Rattle.items.specs.Items.{due_in, item_fields, rules_of}
use Rattle.findings.proofs.ByKind.{whole_else, alone_else, alone_always, no_whole, no_alone, no_code}
use Rattle.findings.proofs.Row.{two_of, seven_of}

module _ (x : ItemFindings) where
  pub whole_row : first_whole (rules_of x) ≡ earlier (whole_code (always (Ü 46)) x.mark) (either_code 34 0 x.amount.found)
  unfolding rules_of
  whole_row =
      let a = whole_else (Ü 34) (T 16) x.amount.found in
      let h =
      two_of
      (whole_code (always (Ü 46)) x.mark)
      (whole_code (digits_else (T 39) (T 32)) x.number)
      (whole_code (always (T 33)) x.due)
      (whole_code (digits_else (Ü 34) (T 16)) x.amount.found)
      (whole_code (always (T 37)) x.bank)
      (whole_code (always (T 61)) x.account)
      (whole_code (always (T 63)) x.customer)
      (whole_code (always (T 62)) x.owner)
      (whole_else (T 39) (T 32) x.number ∙ no_code x.number)
      (no_whole 33 x.due)
      (no_whole 37 x.bank)
      (no_whole 61 x.account)
      (no_whole 63 x.customer)
      (no_whole 62 x.owner) in
      h ∙ rw a

  pub alone_row :
      first_alone (rules_of x)
      ≡ earlier (either_code 39 32 x.number)
      (earlier (whole_code (always (Ü 33)) x.due)
      (earlier (either_code 0 16 x.amount.found)
      (earlier (whole_code (always (Ü 37)) x.bank)
      (earlier (whole_code (always (Ü 61)) x.account) (earlier (whole_code (always (Ü 63)) x.customer) (whole_code (always (Ü 62)) x.owner))))))
  unfolding rules_of
  alone_row =
      let h =
      seven_of
      (item_code (always (Ü 46)) x.mark)
      (item_code (digits_else (T 39) (T 32)) x.number)
      (item_code (always (T 33)) x.due)
      (item_code (digits_else (Ü 34) (T 16)) x.amount.found)
      (item_code (always (T 37)) x.bank)
      (item_code (always (T 61)) x.account)
      (item_code (always (T 63)) x.customer)
      (item_code (always (T 62)) x.owner)
      (no_alone 46 x.mark) in
      h
      ∙ rw (
        alone_else (T 39) (T 32) x.number,
        alone_always 33 x.due,
        alone_else (Ü 34) (T 16) x.amount.found,
        alone_always 37 x.bank,
        alone_always 61 x.account,
        alone_always 63 x.customer,
        alone_always 62 x.owner,
      )

module _ (kind e : ℕ) (is_listed : ℕ → Bool) (k : ℕ) (r : List ℕ) where
  -- the fields of an item, with what is found in its due date
  abbrev due_by : Finding → ItemFindings
  due_by d =
      record {
        mark = (item_fields kind e is_listed k r).mark;
        number = (item_fields kind e is_listed k r).number;
        due = d;
        amount = (item_fields kind e is_listed k r).amount;
        bank = (item_fields kind e is_listed k r).bank;
        account = (item_fields kind e is_listed k r).account;
        customer = (item_fields kind e is_listed k r).customer;
        owner = (item_fields kind e is_listed k r).owner;
      }

  -- what two lists of rows both give
  module _ {A : Type 0} (g : List Rule → A)
      (b : g (rules_of (due_by (due_found e (field 9 16 r)))) ≡ g (beszed.item_rules e is_listed k r))
      (a : g (rules_of (due_by Right)) ≡ g (atutal.item_rules is_listed k r)) where
    by_kind : g (rules_of (item_fields kind e is_listed k r)) ≡ g (item_rules kind e is_listed k r)
    unfolding item_fields due_in item_rules tables
    by_kind = go (is_beszed kind)
      where
        go : (t : Bool)
            → g (rules_of (due_by (cond t (due_found e (field 9 16 r)) Right)))
            ≡ g ((cond {A = Tables} t
            (record { head = beszed.head_rules e is_listed; item = beszed.item_rules e is_listed })
            (record { head = atutal.head_rules e is_listed; item = atutal.item_rules is_listed })).item k r)
        go true = b
        go false = a

  pub same_fault : first_whole (rules_of (item_fields kind e is_listed k r)) ≡ first_whole (item_rules kind e is_listed k r)
  unfolding rules_of item_fields atutal.item_rules beszed.item_rules
  same_fault = by_kind first_whole refl refl

  pub same_code : first_alone (rules_of (item_fields kind e is_listed k r)) ≡ first_alone (item_rules kind e is_listed k r)
  unfolding rules_of item_fields atutal.item_rules beszed.item_rules
  same_code = by_kind first_alone refl refl

  pub same_name : first_named (rules_of (item_fields kind e is_listed k r)) ≡ first_named (item_rules kind e is_listed k r)
  unfolding rules_of item_fields atutal.item_rules beszed.item_rules
  same_name = by_kind first_named refl refl
