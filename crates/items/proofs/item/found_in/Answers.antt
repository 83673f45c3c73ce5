-- `items::item::found_in` meets its contract: the codes by the findings are those of the table, and under a bar 14.
-- Assumes nothing.
use mathlib.Core.Path.{◌≡◌, ap, ◌∙◌}
use mathlib.Core.Bool.{Bool, false, cond, not}
use mathlib.Core.List.{List}
use Prim.Native.Nat.{ℕ}
use lib.ListN.{length}
use borrow.Author.Rules.{rules}
use borrow.Author.Tests.{eq-eqb, ne_eqb}
use Rattle.base.specs.Bytes.{field}
use Rattle.text.specs.Text.{is_text}
use Rattle.account.specs.Account.{is_zero_account}
use Rattle.lists.specs.Banks.{found_in}
use Rattle.frame.specs.declared.Found.{Found}
use Rattle.frame.specs.declared.Told.{Told}
use Rattle.findings.specs.Codes.{first_whole, first_alone}
use Rattle.kinds.specs.Codes.{item_found, under_bar, item_told}
use Rattle.items.specs.Items.{item_fields, rules_of}
use Rattle.items.proofs.Tables.{same_fault, same_code}
use Rattle.items.proofs.item.found_in.Goals as goal

module _ (kind e : ℕ) (is_listed : ℕ → Bool) (k : ℕ) (r : List ℕ) where
  -- what the functions give of an item
  abbrev given : Found
  given =
      record {
        letter = not (is_text (field 51 249 r));
        fault = first_whole (rules_of (item_fields kind e is_listed k r));
        code = first_alone (rules_of (item_fields kind e is_listed k r));
        amount = (item_fields kind e is_listed k r).amount.value;
        zero = is_zero_account (field 35 50 r);
      }

  broken : (length r ≡ 249 → ⊥) → record { letter = false; fault = 26; code = 0; amount = 0; zero = false } ≡ item_found kind e is_listed k r
  unfolding item_found
  broken f = simp (ne_eqb (length r) 249 f)

  is_found : length r ≡ 249 → given ≡ item_found kind e is_listed k r
  unfolding item_found item_fields
  is_found h = rw (eq-eqb (length r) 249 h, same_fault kind e is_listed k r, same_code kind e is_listed k r)

module _ (told : Told) (e : ℕ) (is_listed : ℕ → Bool) (k : ℕ) (r : List ℕ) where
  broken_told : (length r ≡ 249 → ⊥) → {c : ℕ} → c ≡ cond told.barred 14 0
      → record { letter = false; fault = 26; code = c; amount = 0; zero = false } ≡ item_told told e is_listed k r
  broken_told f i = rw i (ap (under_bar told.barred) (broken told.kind e is_listed k r f))

  is_told : length r ≡ 249 → under_bar told.barred (given told.kind e is_listed k r) ≡ item_told told e is_listed k r
  is_told h = ap (under_bar told.barred) (is_found told.kind e is_listed k r h)

pub returns-in_default : goal.returns-in_default
returns-in_default c =
    broken_told c.args.told c.args.e (found_in c.args.banks.now) c.args.k c.args.r.now (λ h. search rules) c.under_bar.ensures

pub returns : goal.returns
returns c =
    let item = c.in-Ok.item.now in
    let h : length item ≡ 249 = search rules in
    let same : item ≡ c.args.r.now = search rules in
    rw (c.is_text.ensures, c.whole_of.ensures, c.under_bar-2.ensures, c.alone_of.ensures, c.fields_in-f.ensures, c.is_zero.ensures)
    (is_told c.args.told c.args.e (found_in c.args.banks.now) c.args.k item h
    ∙ ap (λ (r : List ℕ). item_told c.args.told c.args.e (found_in c.args.banks.now) c.args.k r) same)
