-- The message code is 00 exactly when the message has no fault of the whole, by what is found in it.
-- Assumes nothing.
use mathlib.Core.Path.{◌≡◌, refl, sym, ap, ◌∙◌}
use mathlib.Core.Bool.{Bool, true, false, not, false≢true}
use mathlib.Core.List.{List, [], ◌∷◌}
use Prim.Native.Nat.{ℕ, ◌+◌}
use lib.Dec.{eqb}
use lib.ListN.{length}
use borrow.Author.Tests.{eq-eqb, not-false}
use Rattle.std.specs.Prelude.{Ok, Err}
use Rattle.base.specs.Bytes.{ascii, field, same}
use Rattle.base.specs.Each.{Each}
use Rattle.text.specs.Text.{is_text}
use Rattle.digits.specs.Digits.{number_of}
use Rattle.account.specs.Account.{account_of, is_zero_account}
use Rattle.frame.specs.declared.Found.{Found}
use Rattle.frame.specs.declared.Told.{Told}
use Rattle.frame.specs.Records.{lengths, head_of, items_of, foot_of}
use Rattle.frame.specs.Verdict.{Rules, total, findings, found_in, message_code}
use Rattle.frame.proofs.Counting.{findings_length}
use Rattle.frame.proofs.Cut.{each_item, head_long, foot_long}
use Rattle.frame.proofs.Faults.{codeless, code_zero}
use Rattle.findings.specs.declared.Kind.TheVariants.{Mark, NotDigits, BlankOrZero, OutOfOrder}
use Rattle.findings.specs.Findings.{Finding, Right, unless}
use Rattle.findings.specs.Codes.{Ü, T, always, digits_else, first_whole, first_alone}
use Rattle.findings.specs.Faults.{is_whole, is_code, codes_pass}
use Rattle.findings.proofs.Faults.{spoils, NoneSpoils, none_spoils, no_code, all_right, right_spares}
use Rattle.fields.specs.Fields.{digits_of, place_found, amount_found, filled_found}
use Rattle.checked.specs.Checked.{bank_found, account_found, due_found}
use Rattle.atutal.specs.Tables as atutal
use Rattle.beszed.specs.Tables as beszed
use Rattle.kinds.specs.Kinds.{kind_of, told_of, tables}
use Rattle.kinds.specs.Codes.{head_rules, item_rules, head_letter, head_code, item_found, rules_by}
use Rattle.kinds.specs.Faultless.{amounts, ItemRight, Faultless}
use Rattle.kinds.proofs.Tables.{of_both, no_code_0, head_whole}
use Rattle.kinds.proofs.Totals.{foot_says, foot_right_lem}

-- a code of the item alone spoils nothing, nor does a number that is wrong
alone : (n : ℕ) (f : Finding) → spoils (always (T n)) f ≡ false
alone n (Ok u) = refl
alone n (Err k) = refl

number_alone : (d k : Bool) → spoils (digits_else (T 39) (T 32)) (unless d NotDigits (unless k OutOfOrder Right)) ≡ false
number_alone true true = refl
number_alone true false = refl
number_alone false k = refl

-- a type that isn't 02 does, and an amount that isn't digits
type_right : (t : Bool) → spoils (always (Ü 46)) (unless t Mark Right) ≡ false → t ≡ true
type_right true e = refl
type_right false e = absurd (false≢true (sym e))

amount_right : (d z : Bool) → spoils (digits_else (Ü 34) (T 16)) (unless d NotDigits (unless z BlankOrZero Right)) ≡ false → d ≡ true
amount_right true z e = refl
amount_right false z e = absurd (false≢true (sym e))

type_spares : (t : Bool) → t ≡ true → spoils (always (Ü 46)) (unless t Mark Right) ≡ false
type_spares t e = rw e

amount_spares : (d z : Bool) → d ≡ true → spoils (digits_else (Ü 34) (T 16)) (unless d NotDigits (unless z BlankOrZero Right)) ≡ false
amount_spares true true e = refl
amount_spares true false e = refl
amount_spares false z e = absurd (false≢true e)

-- where the rules of an item find nothing marked Ü, it is right, and the other way
module _ (e : ℕ) (is_listed : ℕ → Bool) (k : ℕ) (r : List ℕ) where
  abbrev two : Bool
  two = same (field 1 2 r) (ascii "02")

  abbrev ten : Bool
  ten = digits_of 10 (field 17 26 r)

  abbrev some : Bool
  some = not (eqb (number_of (field 17 26 r)) 0)

  item_right : (kind : ℕ) → NoneSpoils (item_rules kind e is_listed k r) → ItemRight r
  unfolding item_rules tables atutal.item_rules beszed.item_rules amount_found
  item_right =
      of_both e is_listed (λ t. NoneSpoils (t.item k r) → ItemRight r)
      (λ n. record { mark = type_right two n.0; amount = amount_right ten some n.1.1.1.0 })
      (λ n. record { mark = type_right two n.0; amount = amount_right ten some n.1.1.0 })

  -- the rows that both kinds have, before and after the due date's
  number_row : spoils (digits_else (T 39) (T 32)) (place_found k (field 3 8 r)) ≡ false
  unfolding place_found
  number_row = number_alone (digits_of 6 (field 3 8 r)) (eqb (number_of (field 3 8 r)) k)

  abbrev Rest : Type 0
  Rest =
      (spoils (digits_else (Ü 34) (T 16)) (amount_found (field 17 26 r)) ≡ false)
      × ((spoils (always (T 37)) (bank_found is_listed (field 27 34 r)) ≡ false)
      × ((spoils (always (T 61)) (account_found (account_of (field 35 50 r))) ≡ false)
      × ((spoils (always (T 63)) (filled_found (field 51 74 r)) ≡ false) × ((spoils (always (T 62)) (filled_found (field 145 179 r)) ≡ false) × Unit))))

  rest_rows : ItemRight r → Rest
  unfolding amount_found
  rest_rows h = (
    amount_spares ten some h.amount,
    (
      alone 37 (bank_found is_listed (field 27 34 r)),
      (alone 61 (account_found (account_of (field 35 50 r))), (alone 63 (filled_found (field 51 74 r)), (alone 62 (filled_found (field 145 179 r)), tt))),
    ),
  )

  right_item : ItemRight r → (kind : ℕ) → NoneSpoils (item_rules kind e is_listed k r)
  unfolding item_rules tables atutal.item_rules beszed.item_rules
  right_item h =
      of_both e is_listed (λ t. NoneSpoils (t.item k r))
      (type_spares two h.mark, (number_row, (alone 33 (due_found e (field 9 16 r)), rest_rows h)))
      (type_spares two h.mark, (number_row, rest_rows h))

module _ (e : ℕ) (is_listed : ℕ → Bool) (known : List ℕ) (is_barred : ℕ → Bool) where
  abbrev R : Rules
  R = rules_by e is_listed known is_barred

  -- a whole head
  module _ (r : List ℕ) (h : length r ≡ 174) where
    letter_is : head_letter r ≡ not (is_text (field 70 174 r))
    unfolding head_letter
    letter_is = rw (eq-eqb (length r) 174 h)

    code_is : head_code e is_listed known r ≡ first_whole (head_rules e is_listed known r)
    unfolding head_code
    code_is = rw (eq-eqb (length r) 174 h)

  head_coded : (r : List ℕ) → codes_pass is_code (head_rules e is_listed known r) ≡ true
  unfolding head_rules
  head_coded r = (no_code_0 e is_listed (kind_of r) 0 known r).0

  head_all_whole : (r : List ℕ) → codes_pass is_whole (head_rules e is_listed known r) ≡ true
  unfolding head_rules
  head_all_whole r = head_whole e is_listed (kind_of r) known r

  -- a whole item
  module _ (kind k : ℕ) (r : List ℕ) (h : length r ≡ 249) where
    abbrev item : Found
    item =
        record {
          letter = not (is_text (field 51 249 r));
          fault = first_whole (item_rules kind e is_listed k r);
          code = first_alone (item_rules kind e is_listed k r);
          amount = number_of (field 17 26 r);
          zero = is_zero_account (field 35 50 r);
        }

    item_is : item_found kind e is_listed k r ≡ item
    unfolding item_found
    item_is = rw (eq-eqb (length r) 249 h)

  item_coded : (kind k : ℕ) (r : List ℕ) → codes_pass is_code (item_rules kind e is_listed k r) ≡ true
  unfolding item_rules
  item_coded kind k r = (no_code_0 e is_listed kind k known r).1

  abbrev Long : List (List ℕ) → Type 0
  Long = Each (λ r. length r ≡ 249)

  -- what is found in whole items, by what stands in them
  texts : (told : Told) (k : ℕ) (rs : List (List ℕ)) → Long rs → Each (λ f. f.letter ≡ false) (findings R told k rs)
      → Each (λ r. is_text (field 51 249 r) ≡ true) rs
  unfolding findings
  texts told k [] l h = tt
  texts told k (r ∷ rs) l h =
      (not-false (is_text (field 51 249 r)) (sym (ap (λ (f : Found). f.letter) (item_is told.kind k r l.0)) ∙ h.0), texts told (k + 1) rs l.1 h.1)

  letters : (told : Told) (k : ℕ) (rs : List (List ℕ)) → Long rs → Each (λ r. is_text (field 51 249 r) ≡ true) rs
      → Each (λ f. f.letter ≡ false) (findings R told k rs)
  unfolding findings
  letters told k [] l h = tt
  letters told k (r ∷ rs) l h = (ap (λ (f : Found). f.letter) (item_is told.kind k r l.0) ∙ ap not h.0, letters told (k + 1) rs l.1 h.1)

  spared : (told : Told) (k : ℕ) (rs : List (List ℕ)) → Long rs → Each (λ f. f.fault ≡ 0) (findings R told k rs) → Each ItemRight rs
  unfolding findings
  spared told k [] l h = tt
  spared told k (r ∷ rs) l h =
      let z : first_whole (item_rules told.kind e is_listed k r) ≡ 0 = sym (ap (λ (f : Found). f.fault) (item_is told.kind k r l.0)) ∙ h.0 in
      let n = none_spoils (item_rules told.kind e is_listed k r) (item_coded told.kind k r) z in
      (item_right e is_listed k r told.kind n, spared told (k + 1) rs l.1 h.1)

  faults : (told : Told) (k : ℕ) (rs : List (List ℕ)) → Long rs → Each ItemRight rs → Each (λ f. f.fault ≡ 0) (findings R told k rs)
  unfolding findings
  faults told k [] l h = tt
  faults told k (r ∷ rs) l h =
      let z = no_code (item_rules told.kind e is_listed k r) (right_item e is_listed k r h.0 told.kind) in
      (ap (λ (f : Found). f.fault) (item_is told.kind k r l.0) ∙ z, faults told (k + 1) rs l.1 h.1)

  summed : (told : Told) (k : ℕ) (rs : List (List ℕ)) → Long rs → total (findings R told k rs) ≡ amounts rs
  unfolding findings
  summed told k [] l = refl
  summed told k (r ∷ rs) l = rw (item_is told.kind k r l.0, summed told (k + 1) rs l.1)

  module _ (m : List ℕ) where
    abbrev is : List (List ℕ)
    is = items_of lengths m

    long : Long is
    long = each_item lengths m

    abbrev head : List ℕ
    head = head_of lengths m

    abbrev foot : List ℕ
    foot = foot_of lengths m

    abbrev told : Told
    told = told_of is_barred head

    -- code 00 means that there is no fault
    pub faultless : message_code R m ≡ 0 → Faultless e is_listed known m
    faultless z =
        let c = codeless R m z in
        let h = head_long lengths m c.unbroken in
        let n = none_spoils (head_rules e is_listed known head) (head_coded head) (sym (code_is head h) ∙ c.head) in
        let t = foot_says (length (found_in R m)) (total (found_in R m)) foot c.foot in
        record {
          unbroken = c.unbroken;
          head_text = not-false (is_text (field 70 174 head)) (sym (letter_is head h) ∙ c.head_letters);
          item_texts = texts told 1 is long c.item_letters;
          head = all_right (head_rules e is_listed known head) (head_all_whole head) n;
          items = spared told 1 is long c.items;
          count = rw (findings_length R told 1 is) at t.0;
          sum = rw (summed told 1 is long) at t.1;
        }

    -- and where there is none the code is 00
    pub faultless_code : Faultless e is_listed known m → message_code R m ≡ 0
    faultless_code f =
        let h = head_long lengths m f.unbroken in
        let n = no_code (head_rules e is_listed known head) (right_spares (head_rules e is_listed known head) f.head) in
        let p = rw (sym (findings_length R told 1 is)) at f.count in
        let q = rw (sym (summed told 1 is long)) at f.sum in
        code_zero R m
        (record {
          unbroken = f.unbroken;
          head_letters = letter_is head h ∙ ap not f.head_text;
          item_letters = letters told 1 is long f.item_texts;
          head = code_is head h ∙ n;
          items = faults told 1 is long f.items;
          foot = foot_right_lem (length (found_in R m)) (total (found_in R m)) foot (foot_long lengths m f.unbroken) p q;
        })
