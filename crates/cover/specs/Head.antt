-- The head of a FEDJEL (002 12.1.1; 02 #103).
-- Assumes nothing.
use Rattle.std.specs.Prelude.{ℕ, ◌-◌, Bool, false, not, ◌&&◌, List, [], ◌∷◌, get_or, leb, eqb, Ok, Err}
use Rattle.base.specs.Bytes.{ascii, field, same}
use Rattle.base.specs.Groups.{some}
use Rattle.base.specs.Tables.{Row}
use Rattle.digits.specs.Digits.{is_digits, number_of}
use Rattle.calendar.specs.Calendar.{day_number}
use Rattle.calendar.specs.Workdays.{weekday}
use Rattle.calendar.specs.DateField.{DateField, date_field}
use Rattle.requests.specs.Requests.{keeps}

-- the field is digits, and their number is n
unfoldable pub is_number : ℕ → List ℕ → Bool
is_number n s = is_digits s && eqb (number_of s) n

-- the days from the last workday before a day to it, by its weekday, Monday first (02 #103: there is no list of holidays)
unfoldable pub days_back : ℕ → ℕ
days_back n = get_or (3 ∷ 1 ∷ 1 ∷ 1 ∷ 1 ∷ 1 ∷ 2 ∷ []) (weekday n) 0

-- the day number of the last workday before a day; 0, before any date, where there is none
unfoldable pub workday_before : ℕ → ℕ
workday_before n = n - days_back n

-- a date from the last workday before E to E (F523.2)
unfoldable pub sent_on : ℕ → DateField → Bool
sent_on e (Ok d) = leb (workday_before (day_number e)) (day_number d) && leb (day_number d) (day_number e)
sent_on e (Err f) = false

-- the head's faults in the order of its fields
unfoldable pub head_rows : ℕ → List (List ℕ) → List ℕ → List Row
head_rows e rs h =
    (41, not (same (field 1 2 h) (ascii "01")))
    ∷ (9, not (same (field 3 8 h) (ascii "FEDJEL")))
    ∷ (42, not (is_digits (field 9 9 h)))
    ∷ (43, not (is_digits (field 10 12 h) && some (keeps (field 10 12 h)) rs))
    ∷ (44, not (sent_on e (date_field (field 13 20 h))))
    ∷ (2, not (is_digits (field 21 24 h)))
    ∷ (7, not (is_number e (field 25 32 h)))
    ∷ []
