-- Dates of the Gregorian calendar, written as numbers yyyymmdd, years 0001 to 9999 (01, Digits and dates).
-- Assumes nothing.
use Rattle.std.specs.Prelude.{ℕ, zero, suc, ◌+◌, ◌-◌, ◌*◌, ◌/◌, ◌%◌, Bool, cond, not, ◌&&◌, ◌||◌, List, [], ◌∷◌, get_or, leb, ltb, eqb}

-- the parts of a number yyyymmdd
abbrev pub year_of : ℕ → ℕ
year_of n = n / 10000

abbrev pub month_of : ℕ → ℕ
month_of n = n / 100 % 100

abbrev pub day_of : ℕ → ℕ
day_of n = n % 100

-- the number of year y, month m, day d
abbrev pub written : ℕ → ℕ → ℕ → ℕ
written y m d = y * 10000 + m * 100 + d

-- every fourth year is a leap year, but of the hundreds only every fourth
unfoldable pub leap : ℕ → Bool
leap y = eqb (y % 4) 0 && (not (eqb (y % 100) 0) || eqb (y % 400) 0)

-- the days of the months of a year, leap or not, January first
abbrev pub months : Bool → List ℕ
months l = 31 ∷ cond l 29 28 ∷ 31 ∷ 30 ∷ 31 ∷ 30 ∷ 31 ∷ 31 ∷ 30 ∷ 31 ∷ 30 ∷ 31 ∷ []

-- the days of month m, 1 to 12
abbrev pub month_length : Bool → ℕ → ℕ
month_length l m = get_or (months l) (m - 1) 0

-- the days of a year
abbrev pub year_length : Bool → ℕ
year_length l = cond l 366 365

-- the number is a date
unfoldable pub is_date : ℕ → Bool
is_date n =
    leb 1 (year_of n) && (leb (year_of n) 9999
    && (leb 1 (month_of n) && (leb (month_of n) 12
    && (leb 1 (day_of n) && leb (day_of n) (month_length (leap (year_of n)) (month_of n))))))

-- the days of the years 1 to y
unfoldable pub days_of_years : ℕ → ℕ
days_of_years zero = 0
days_of_years (suc y) = days_of_years y + year_length (leap (suc y))

-- the days of the first m months of a year, leap or not
unfoldable pub days_of_months : Bool → ℕ → ℕ
days_of_months l zero = 0
days_of_months l (suc m) = days_of_months l m + month_length l (suc m)

-- how many days have begun since the end of the year before year 1: 1 January of year 1 is 1
unfoldable pub days_to : ℕ → ℕ
days_to n = days_of_years (year_of n - 1) + days_of_months (leap (year_of n)) (month_of n - 1) + day_of n

-- the day number of a date; 0 where the number is no date
unfoldable pub day_number : ℕ → ℕ
day_number n = cond (is_date n) (days_to n) 0

-- the day after a date: the next day of the month, else the first of the next month, else the first of the next year
unfoldable pub day_after : ℕ → ℕ
day_after n =
    cond (ltb (day_of n) (month_length (leap (year_of n)) (month_of n)))
    (written (year_of n) (month_of n) (day_of n + 1))
    (cond (ltb (month_of n) 12)
    (written (year_of n) (month_of n + 1) 1)
    (written (year_of n + 1) 1 1))

-- k days after a date: so many steps to the day after
unfoldable pub after : ℕ → ℕ → ℕ
after zero n = n
after (suc k) n = after k (day_after n)

-- both are dates, and the later one lies from the first to so many days after it
unfoldable pub is_within : ℕ → ℕ → ℕ → Bool
is_within first later days =
    is_date first && (is_date later
    && (leb (day_number first) (day_number later) && leb (day_number later) (day_number first + days)))

-- both are dates, and a is the earlier
unfoldable pub is_before : ℕ → ℕ → Bool
is_before a b = is_date a && (is_date b && ltb (day_number a) (day_number b))
