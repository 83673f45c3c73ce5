-- Examples of files, each group computed at once.
-- Assumes nothing.
use Rattle.std.specs.Prelude.{ℕ, ◌≡◌, refl, List, [], ◌∷◌, ◌++◌, map, Some, None, Ok, Err}
use Rattle.base.specs.Bytes.{ascii}
use Rattle.digits.specs.Digits.{number_of}
use Rattle.calendar.specs.Calendar.{leap, is_date}
use Rattle.calendar.specs.DateField.{date_field}
use Rattle.lent.specs.declared.Refusal.TheVariants.{NotADay, BankList, KnownList}
use Rattle.files.specs.Files.{day_of, is_banks, given, given_by}

-- 0Ah
abbrev line_end : List ℕ
line_end = 10 ∷ []

-- a date; no date; nine bytes; no bytes
pub days : map day_of (ascii "20200310" ∷ ascii "20190229" ∷ (ascii "20200310" ++ line_end) ∷ [] ∷ []) ≡ Some 20200310 ∷ None ∷ None ∷ None ∷ []
unfolding day_of date_field leap is_date number_of
days = refl

-- banks, with a place for each of two: none; two; the second not above the first; no end of the line; three
pub banks :
    map (λ b. given_by (ascii "20200310") b [] 2)
    ([]
    ∷ (ascii "00000000" ++ line_end ++ ascii "16000009" ++ line_end)
    ∷ (ascii "16000009" ++ line_end ++ ascii "16000009" ++ line_end)
    ∷ ascii "16000009"
    ∷ (ascii "00000000" ++ line_end ++ ascii "16000009" ++ line_end ++ ascii "61000009" ++ line_end)
    ∷ [])
    ≡ Ok (given 20200310 0) ∷ Ok (given 20200310 2) ∷ Err BankList ∷ Err BankList ∷ Err BankList ∷ []
unfolding given_by day_of date_field leap is_date number_of is_banks
banks = refl

-- known identifiers: one; a byte short
pub known :
    map (λ k. given_by (ascii "20200310") [] k 0) (ascii "A12345676T001202003100001" ∷ ascii "A12345676T00120200310000" ∷ [])
    ≡ Ok (given 20200310 0) ∷ Err KnownList ∷ []
unfolding given_by day_of date_field leap is_date number_of is_banks
known = refl

-- where each of the three is wrong, the day is named; where the day is right, the banks
pub in_order : map (λ d. given_by d (ascii "1") (ascii "1") 2) ([] ∷ ascii "20200310" ∷ []) ≡ Err NotADay ∷ Err BankList ∷ []
unfolding given_by day_of date_field leap is_date number_of is_banks
in_order = refl
