-- When a message has no fault of the whole, by what is found in it (01, Faults of the whole message).
-- Assumes nothing.
use Rattle.std.specs.Prelude.{ℕ, ◌+◌, ◌≡◌, Bool, true, false, List, [], ◌∷◌, length}
use Rattle.base.specs.Bytes.{ascii, field, same}
use Rattle.base.specs.Each.{Each}
use Rattle.text.specs.Text.{is_text}
use Rattle.digits.specs.Digits.{number_of}
use Rattle.frame.specs.Records.{lengths, head_of, items_of, foot_of, is_broken}
use Rattle.fields.specs.Fields.{digits_of}
use Rattle.findings.specs.Findings.{Right}
use Rattle.kinds.specs.Codes.{head_rules}

-- the sum of the items' amounts; one that isn't ten digits counts as 0
abbrev pub amounts : List (List ℕ) → ℕ
amounts [] = 0
amounts (r ∷ rs) = number_of (field 17 26 r) + amounts rs

-- a field is n digits, and says a number
abbrev pub Says : ℕ → List ℕ → ℕ → Type 0
Says n s want = (digits_of n s ≡ true) × (number_of s ≡ want)

-- what 1.3.1 and 2.3.1 mark Ü is right in an item: its type is 02, its amount ten digits
pub record ItemRight (r : List ℕ) : Type 0 where
  pub mark : same (field 1 2 r) (ascii "02") ≡ true
  pub amount : digits_of 10 (field 17 26 r) ≡ true

-- in the order of 01's list, with E, which banks are listed, and the known list
pub record Faultless (e : ℕ) (is_listed : ℕ → Bool) (known m : List ℕ) : Type 0 where
  -- 1: no break
  pub unbroken : is_broken lengths m ≡ false
  -- 2: every text byte is a letter
  pub head_text : is_text (field 70 174 (head_of lengths m)) ≡ true
  pub item_texts : Each (λ r. is_text (field 51 249 r) ≡ true) (items_of lengths m)
  -- 3: nothing is found in a field of the head, by the table of its kind
  pub head : Each (λ row. row.found ≡ Right) (head_rules e is_listed known (head_of lengths m))
  -- 4: nothing marked Ü is wrong in an item
  pub items : Each ItemRight (items_of lengths m)
  -- 5: the foot's count and sum are digits, and what the items give
  pub count : Says 6 (field 3 8 (foot_of lengths m)) (length (items_of lengths m))
  pub sum : Says 16 (field 9 24 (foot_of lengths m)) (amounts (items_of lengths m))
