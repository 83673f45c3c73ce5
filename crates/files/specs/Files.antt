-- The files that the clearing day and the lists come from: `day`, `banks` and `known` (01, Examples, the slip program).
-- Assumes nothing.
use Rattle.std.specs.Prelude.{ℕ, zero, suc, ◌/◌, ◌%◌, ◌≡◌, Bool, true, false, ◌&&◌, List, [], ◌∷◌, length, get_or, take, drop, leb, eqb}
use Rattle.std.specs.Prelude.{Option, Some, None, Result, Ok, Err}
use Rattle.base.specs.Bytes.{over}
use Rattle.digits.specs.Digits.{is_digits, number_of}
use Rattle.calendar.specs.DateField.{DateField, date_field}
use Rattle.lists.specs.Banks.{is_bank_list}
use Rattle.lists.specs.Known.{is_known_list}
use Rattle.lent.specs.Lent.{refusal_number}
use Rattle.lent.specs.declared.Refusal.{Refusal}
use Rattle.lent.specs.declared.Refusal.TheVariants as refusal
use Rattle.files.specs.declared.Given.{Given}

-- a file has at most so many bytes
abbrev pub longest : ℕ
longest = 25000

-- the date that was read, where one was
abbrev pub date_in : DateField → Option ℕ
date_in (Ok n) = Some n
date_in (Err f) = None

-- `day`: the date that eight digits say, where the file says one
unfoldable pub day_of : List ℕ → Option ℕ
day_of s = date_in (date_field s)

-- nine bytes are a line of `banks`: eight digits and 0Ah
abbrev pub is_line : List ℕ → Bool
is_line s = is_digits (take 8 s) && eqb (get_or s 8 0) 10

-- each of the first n lines is one
abbrev pub are_lines : ℕ → List ℕ → Bool
are_lines zero s = true
are_lines (suc n) s = is_line (take 9 s) && are_lines n (drop 9 s)

-- the numbers of the first n lines
abbrev pub numbers_of : ℕ → List ℕ → List ℕ
numbers_of zero s = []
numbers_of (suc n) s = number_of (take 8 s) ∷ numbers_of n (drop 9 s)

-- the numbers of `banks`
abbrev pub numbers : List ℕ → List ℕ
numbers s = numbers_of (length s / 9) s

-- whole lines, whose numbers are a bank list
abbrev pub ordered : List ℕ → Bool
ordered s = are_lines (length s / 9) s && is_bank_list (numbers s)

-- `banks`: not too long, whole lines with the numbers of a bank list, and for each number a place in a list of so many
unfoldable pub is_banks : List ℕ → ℕ → Bool
is_banks s room = leb (length s) longest && (eqb (length s % 9) 0 && (leb (length s / 9) room && ordered s))

-- `known`: not too long, and whole identifiers
abbrev pub is_known_file : List ℕ → Bool
is_known_file s = leb (length s) longest && is_known_list s

-- the number of what the files give: 0, or the refusal's
abbrev pub given_number : Result Given Refusal → ℕ
given_number (Ok g) = 0
given_number (Err r) = refusal_number r

-- what the files say where they pass
abbrev pub given : ℕ → ℕ → Given
given day banks = record { day = day; banks = banks }

-- the day, if there is one, and how many banks there are, where `banks` and `known` pass their tests; or refusal 1, 2 or 3, in this order
abbrev pub given_at : Option ℕ → Bool → Bool → ℕ → Result Given Refusal
given_at None v w n = Err refusal.NotADay
given_at (Some day) false w n = Err refusal.BankList
given_at (Some day) true false n = Err refusal.KnownList
given_at (Some day) true true n = Ok (given day n)

-- what the three files give, with a place for so many banks
unfoldable pub given_by : List ℕ → List ℕ → List ℕ → ℕ → Result Given Refusal
given_by day banks known room = given_at (day_of day) (is_banks banks room) (is_known_file known) (length banks / 9)

-- the banks over the front of the list, where nothing is refused
abbrev pub listed : Result Given Refusal → List ℕ → List ℕ → List ℕ
listed (Ok g) banks list = over list 0 (numbers banks)
listed (Err r) banks list = list

pub record ReadAs (day banks known list : List ℕ) (r : Result Given Refusal) (list' : List ℕ) : Type 0 where
  pub result : r ≡ given_by day banks known (length list)
  pub bytes : list' ≡ listed r banks list
