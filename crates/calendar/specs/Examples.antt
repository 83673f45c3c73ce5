-- Examples of day numbers, weekdays, due dates and date fields, each group computed at once; 01's examples of dates stand in `kinds`.
-- Assumes nothing.
use Rattle.std.specs.Prelude.{◌≡◌, refl, true, false, [], ◌∷◌, ◌++◌, map, Ok, Err}
use Rattle.base.specs.Bytes.{ascii}
use Rattle.digits.specs.Digits.{number_of}
use Rattle.calendar.specs.Calendar.{leap, is_date, days_of_years, days_of_months, days_to, day_number}
use Rattle.calendar.specs.Workdays.{weekday, soonest, next_workday, workday_after, is_due}
use Rattle.calendar.specs.DateField.{date_field}
use Rattle.calendar.specs.declared.DateFault.TheVariants.{NotDigits, NoDate}

-- the first date, two others, the last, and no date
pub numbers : map day_number (10101 ∷ 20200310 ∷ 20240229 ∷ 99991231 ∷ 20190229 ∷ []) ≡ 1 ∷ 737494 ∷ 738945 ∷ 3652059 ∷ 0 ∷ []
unfolding leap is_date days_of_years days_of_months days_to day_number
numbers = refl

-- a Monday, a Tuesday, a Saturday, a Sunday
pub weekdays : map (λ n. weekday (day_number n)) (10101 ∷ 20200310 ∷ 20000101 ∷ 20240303 ∷ []) ≡ 0 ∷ 1 ∷ 5 ∷ 6 ∷ []
unfolding leap is_date days_of_years days_of_months days_to day_number
weekdays = refl

-- E is a Tuesday: E, the Saturday after, E+8; the day before E, the two days after E+8 that aren't due; and the last date is due on itself
pub due_dates : map (is_due 20200310) (20200310 ∷ 20200314 ∷ 20200320 ∷ 20200309 ∷ 20200321 ∷ 20200323 ∷ []) ++ map (is_due 99991231) (99991231 ∷ [])
    ≡ true ∷ true ∷ true ∷ false ∷ false ∷ false ∷ true ∷ []
unfolding leap is_date days_of_years days_of_months days_to day_number soonest next_workday workday_after is_due
due_dates = refl

-- a date, no date, a byte that is no digit, and seven digits
pub date_fields : map date_field (ascii "20200229" ∷ ascii "20190229" ∷ ascii "2020 229" ∷ ascii "2020229" ∷ [])
    ≡ Ok 20200229 ∷ Err NoDate ∷ Err NotDigits ∷ Err NotDigits ∷ []
unfolding leap is_date number_of date_field
date_fields = refl
