-- What is found in marks, numbers and texts: nothing wrong, or the kind of its first fault, in 01's order of kinds
-- (01, Faults of the whole message; Item rules; 002 sections 1.1.1 to 1.3.1 and 2.1.1 to 2.3.1).
-- Assumes nothing.
use Rattle.std.specs.Prelude.{ℕ, Bool, cond, not, ◌&&◌, ◌||◌, List, length, eqb}
use Rattle.base.specs.Bytes.{every, same}
use Rattle.text.specs.Text.{is_text, is_blank, is_blank_or_zero}
use Rattle.digits.specs.Digits.{digit, is_digits, number_of}
use Rattle.lists.specs.Known.{is_known}
use Rattle.purposes.specs.Purposes.{is_purpose}
use Rattle.findings.specs.declared.Kind.TheVariants.{Letter, Mark, NotDigits, NotListed, Known, BlankOrZero, OutOfOrder}
use Rattle.findings.specs.Findings.{Finding, Right, unless}
use Rattle.fields.specs.declared.Amount.{Amount}

-- n digits
abbrev pub digits_of : ℕ → List ℕ → Bool
digits_of n s = eqb (length s) n && is_digits s

-- type and message type: the bytes that must stand there
abbrev pub mark_found : List ℕ → List ℕ → Finding
mark_found mark s = unless (same s mark) Mark Right

-- duplicate code: 0-9 or @
abbrev pub duplicate_found : List ℕ → Finding
duplicate_found s = unless (every (λ b. digit b || eqb b 0x40) s) Mark Right

-- the duplicate code of a BESZED: 0-9 (002, 2.1)
abbrev pub digit_found : List ℕ → Finding
digit_found s = unless (every digit s) Mark Right

-- the duplicate code of a STATUS is 0 or @ (01, refusal 8)
unfoldable pub is_duplicate : ℕ → Bool
is_duplicate b = eqb b 0x30 || eqb b 0x40

-- identifier: not one of the known list
abbrev pub identifier_found : List ℕ → List ℕ → Finding
identifier_found known s = unless (not (is_known known s)) Known Right

-- number: digits
abbrev pub number_found : ℕ → List ℕ → Finding
number_found n s = unless (digits_of n s) NotDigits Right

-- purpose: in annex 2
abbrev pub purpose_found : List ℕ → Finding
purpose_found s = unless (is_purpose s) NotListed Right

-- the name of an ATUTAL's head: not all spaces
abbrev pub name_found : List ℕ → Finding
name_found s = unless (not (is_blank s)) BlankOrZero Right

-- item number: six digits, and the item's place k
unfoldable pub place_found : ℕ → List ℕ → Finding
place_found k s = unless (digits_of 6 s) NotDigits (unless (eqb (number_of s) k) OutOfOrder Right)

-- amount: ten digits, not all zero
unfoldable pub amount_found : List ℕ → Finding
amount_found s = unless (digits_of 10 s) NotDigits (unless (not (eqb (number_of s) 0)) BlankOrZero Right)

-- an amount's number, 0 where it isn't digits, and what is found in it
abbrev pub amount_of : List ℕ → Amount
amount_of s = record { value = number_of s; found = amount_found s }

-- customer id and owner, and the name of a BESZED's head: not only spaces and zeros
abbrev pub filled_found : List ℕ → Finding
filled_found s = unless (not (is_blank_or_zero s)) BlankOrZero Right

-- any text field: its letters
abbrev pub letter_found : List ℕ → Finding
letter_found s = unless (is_text s) Letter Right

-- a total of n digits: its code unless it is what the items give
abbrev pub total_code : ℕ → ℕ → ℕ → List ℕ → ℕ
total_code n want code s = cond (digits_of n s && eqb (number_of s) want) 0 code
