-- Workdays, Monday to Friday, of day numbers, and the days on which an item may be due (02 #101; 002 2.3.1 note 1).
-- Assumes nothing.
use Rattle.std.specs.Prelude.{ℕ, zero, suc, ◌+◌, ◌%◌, Bool, cond, ◌&&◌, [], ◌∷◌, get_or, leb, ltb}
use Rattle.calendar.specs.Calendar.{is_date, day_number}

-- the weekday of a day number, 0 Monday to 6 Sunday: day number 1, 00010101, is a Monday
abbrev pub weekday : ℕ → ℕ
weekday n = (n + 6) % 7

-- Monday to Friday: there is no list of holidays (02 #101)
abbrev pub is_workday : ℕ → Bool
is_workday n = ltb (weekday n) 5

-- the first workday of the f days after a day, looked at one by one; the last of them where none is a workday
unfoldable pub soonest : ℕ → ℕ → ℕ
soonest zero n = n
soonest (suc f) n = cond (is_workday (n + 1)) (n + 1) (soonest f (n + 1))

-- the first workday after a day: a week has one
unfoldable pub next_workday : ℕ → ℕ
next_workday n = soonest 7 n

-- the k-th workday after a day, which isn't counted itself (002 2.3.1 note 1)
unfoldable pub workday_after : ℕ → ℕ → ℕ
workday_after zero n = n
workday_after (suc k) n = workday_after k (next_workday n)

-- the days from a day to the eighth workday after it, by its weekday, Monday first (02 #101)
unfoldable pub days_to_eighth : ℕ → ℕ
days_to_eighth n = get_or (10 ∷ 10 ∷ 12 ∷ 12 ∷ 12 ∷ 11 ∷ 10 ∷ []) (weekday n) 0

-- both are dates, and d lies from e to the eighth workday after e, which may lie after the last date (002 2.3.1 note 1)
unfoldable pub is_due : ℕ → ℕ → Bool
is_due e d =
    is_date e && (is_date d
    && (leb (day_number e) (day_number d) && leb (day_number d) (workday_after 8 (day_number e))))
