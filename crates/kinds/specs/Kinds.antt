-- The kinds of message: which one a head tells, whether its bank is barred, and the tables of rules that a kind chooses (02, #101, #105).
-- Assumes nothing.
use Rattle.std.specs.Prelude.{ℕ, Bool, cond, not, ◌&&◌, List, eqb}
use Rattle.base.specs.Bytes.{ascii, field, same}
use Rattle.digits.specs.Digits.{number_of}
use Rattle.frame.specs.declared.Told.{Told}
use Rattle.findings.specs.Codes.{Rule}
use Rattle.fields.specs.Fields.{digits_of}
use Rattle.atutal.specs.Tables as atutal
use Rattle.beszed.specs.Tables as beszed

-- their numbers
abbrev pub ATUTAL : ℕ
ATUTAL = 0

abbrev pub BESZED : ℕ
BESZED = 1

-- the kind that a head tells: its positions 3-8 are BESZED; any other six bytes are ATUTAL's to judge
unfoldable pub kind_of : List ℕ → ℕ
kind_of r = cond (same (field 3 8 r) (ascii "BESZED")) BESZED ATUTAL

-- a kind as a number that comes from outside: 1 is BESZED, any other ATUTAL
abbrev pub is_beszed : ℕ → Bool
is_beszed kind = eqb kind BESZED

-- the head's bank is barred: positions 35-42 are eight digits, and the number in 35-37 is one of the barred (02, #105)
abbrev pub is_barred_bank : (ℕ → Bool) → List ℕ → Bool
is_barred_bank is_barred r = digits_of 8 (field 35 42 r) && is_barred (number_of (field 35 37 r))

-- what a head of a kind tells the rules of its items; BESZED knows no bar
abbrev pub told_as : ℕ → (ℕ → Bool) → List ℕ → Told
told_as kind is_barred r = record { kind = kind; barred = not (is_beszed kind) && is_barred_bank is_barred r }

-- and a head of its own kind
unfoldable pub told_of : (ℕ → Bool) → List ℕ → Told
told_of is_barred r = told_as (kind_of r) is_barred r

-- the rules of a head, with the known list, and of an item, with its place
pub record Tables : Type 0 where
  pub head : List ℕ → List ℕ → List Rule
  pub item : ℕ → List ℕ → List Rule

-- the one place where a kind chooses its rules, with E and which banks are listed
unfoldable pub tables : ℕ → ℕ → (ℕ → Bool) → Tables
tables kind e is_listed =
    cond (is_beszed kind)
    (record { head = beszed.head_rules e is_listed; item = beszed.item_rules e is_listed })
    (record { head = atutal.head_rules e is_listed; item = atutal.item_rules is_listed })
