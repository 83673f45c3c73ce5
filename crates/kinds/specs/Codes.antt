-- The codes that follow from the tables of a message's kind: the rules of a message of either kind
-- (01, Faults of the whole message; 02, #101, #105; 002 sections 1.2.1, 1.3.1 and 2.2.1).
-- Assumes nothing.
use Rattle.std.specs.Prelude.{ℕ, Bool, false, cond, not, List, [], ◌∷◌, map, length, eqb}
use Rattle.base.specs.Bytes.{field}
use Rattle.text.specs.Text.{is_text}
use Rattle.digits.specs.Digits.{number_of}
use Rattle.account.specs.Account.{is_zero_account}
use Rattle.lists.specs.Banks.{member, found_in}
use Rattle.frame.specs.declared.Found.{Found}
use Rattle.frame.specs.declared.Told.{Told}
use Rattle.frame.specs.Records.{lengths}
use Rattle.frame.specs.Verdict.{Rules, first}
use Rattle.findings.specs.Codes.{Rule, first_whole, first_alone}
use Rattle.findings.specs.Before.{rule_before}
use Rattle.fields.specs.Fields.{total_code}
use Rattle.lent.specs.Lent.{Lent}
use Rattle.kinds.specs.Kinds.{kind_of, told_as, told_of, tables}

-- the rules of a head by the kind that it tells itself, and of an item by the kind that its head told
unfoldable pub head_rules : ℕ → (ℕ → Bool) → List ℕ → List ℕ → List Rule
head_rules e is_listed known r = (tables (kind_of r) e is_listed).head known r

unfoldable pub item_rules : ℕ → ℕ → (ℕ → Bool) → ℕ → List ℕ → List Rule
item_rules kind e is_listed k r = (tables kind e is_listed).item k r

-- text is head 70-174; bytes of another length are a break
unfoldable pub head_letter : List ℕ → Bool
head_letter r = cond (eqb (length r) lengths.head) (not (is_text (field 70 174 r))) false

-- the code of a head, by its rules
abbrev pub head_code_by : List Rule → List ℕ → ℕ
head_code_by rs r = cond (eqb (length r) lengths.head) (first_whole rs) 26

unfoldable pub head_code : ℕ → (ℕ → Bool) → List ℕ → List ℕ → ℕ
head_code e is_listed known r = head_code_by (head_rules e is_listed known r) r

-- an item, by its rules: text is item 51-249; an amount that isn't ten digits counts as 0; bytes of another length are a break
abbrev pub item_found_by : List Rule → List ℕ → Found
item_found_by rs r =
    cond (eqb (length r) lengths.item)
    (record {
      letter = not (is_text (field 51 249 r));
      fault = first_whole rs;
      code = first_alone rs;
      amount = number_of (field 17 26 r);
      zero = is_zero_account (field 35 50 r);
    })
    (record { letter = false; fault = 26; code = 0; amount = 0; zero = false })

unfoldable pub item_found : ℕ → ℕ → (ℕ → Bool) → ℕ → List ℕ → Found
item_found kind e is_listed k r = item_found_by (item_rules kind e is_listed k r) r

-- 1.3.1, note 4: under a bar an item's code is 14, in place of 0 too (02, #105)
abbrev pub under_bar : Bool → Found → Found
under_bar barred f = record { letter = f.letter; fault = f.fault; code = cond barred 14 f.code; amount = f.amount; zero = f.zero }

-- an item by what its head told
abbrev pub item_told : Told → ℕ → (ℕ → Bool) → ℕ → List ℕ → Found
item_told told e is_listed k r = under_bar told.barred (item_found told.kind e is_listed k r)

-- 1.2.1 and 2.2.1: the count is six digits and the items' number, the sum sixteen digits and theirs; bytes of another length are a break
unfoldable pub foot_code : ℕ → ℕ → List ℕ → ℕ
foot_code count sum r =
    cond (eqb (length r) lengths.foot)
    (first (total_code 6 count 18 (field 3 8 r) ∷ total_code 16 sum 19 (field 9 24 r) ∷ []))
    26

-- rules by what a head tells its items, the code of a head, and what is found in an item; text and foot are the same in all
abbrev pub rules_with : (List ℕ → Told) → (List ℕ → ℕ) → (Told → ℕ → List ℕ → Found) → Rules
rules_with tells code item =
    record {
      tells = tells;
      head_letter = head_letter;
      head_code = code;
      item = item;
      foot_code = foot_code;
      foot_count = λ r. number_of (field 3 8 r);
      foot_sum = λ r. number_of (field 9 24 r);
    }

-- the rules of a message, with E, which banks are listed, the known list, and which banks are barred; its head tells the items its kind and the bar
abbrev pub rules_by : ℕ → (ℕ → Bool) → List ℕ → (ℕ → Bool) → Rules
rules_by e is_listed known is_barred = rules_with (told_of is_barred) (head_code e is_listed known) (λ told k r. item_told told e is_listed k r)

-- the rules of one kind alone, whatever kind a head tells
abbrev pub rules_of_kind : ℕ → ℕ → (ℕ → Bool) → List ℕ → (ℕ → Bool) → Rules
rules_of_kind kind e is_listed known is_barred =
    rules_with (told_as kind is_barred)
    (λ r. head_code_by ((tables kind e is_listed).head known r) r)
    (λ told k r. under_bar told.barred (item_found kind e is_listed k r))

-- the rules of a message without any bar: an item has its own code
abbrev pub rules_unbarred : ℕ → (ℕ → Bool) → List ℕ → Rules
rules_unbarred e is_listed known =
    rules_with (λ r. record { kind = kind_of r; barred = false }) (head_code e is_listed known) (λ told k r. item_found told.kind e is_listed k r)

-- the rules of a message by 01's kinds of fault, the finer ones of 02 #102 taken for those that they came from
abbrev pub rules_before : ℕ → (ℕ → Bool) → List ℕ → (ℕ → Bool) → Rules
rules_before e is_listed known is_barred =
    rules_with (told_of is_barred)
    (λ r. head_code_by (map rule_before (head_rules e is_listed known r)) r)
    (λ told k r. under_bar told.barred (item_found_by (map rule_before (item_rules told.kind e is_listed k r)) r))

-- for what is lent, as the search by halves finds a bank in either list
abbrev pub rules : Lent → Rules
rules l = rules_by l.day (found_in l.lists.banks) l.lists.known (found_in l.lists.barred)

-- and by membership of the lists
abbrev pub member_rules : Lent → Rules
member_rules l = rules_by l.day (λ x. member x l.lists.banks) l.lists.known (λ x. member x l.lists.barred)
