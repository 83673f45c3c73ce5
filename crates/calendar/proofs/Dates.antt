-- A date by its parts: what is known of the year, the month and the day, and the day number that they have.
-- Assumes nothing.
use mathlib.Core.Path.{◌≡◌, refl}
use mathlib.Core.Bool.{Bool, true, false, ◌&&◌}
use Prim.Native.Nat.{ℕ, zero, suc, ◌+◌, ◌-◌, ◌<◌, ◌≤◌}
use native.Mathlib.Omega.{arith}
use lib.Dec.{leb}
use borrow.Author.Tests.{leb-true, le-leb}
use Rattle.base.proofs.Every.{both}
use Rattle.calendar.specs.Calendar.{year_of, month_of, day_of, written, leap, month_length, year_length, is_date, days_of_years, days_of_months, days_to}
use Rattle.calendar.specs.Calendar.{day_number}
use Rattle.calendar.proofs.Numbers.{all, under}

-- year y has a month m and this a day d
pub record Day (y m d : ℕ) : Type 0 where
  pub first_year : 1 ≤ y
  pub last_year : y ≤ 9999
  pub first_month : 1 ≤ m
  pub last_month : m ≤ 12
  pub first_day : 1 ≤ d
  pub last_day : d ≤ month_length (leap y) m

-- the parts of a date are so, and a number with such parts is a date
pub parts : (n : ℕ) → is_date n ≡ true → Day (year_of n) (month_of n) (day_of n)
unfolding is_date
parts n e =
    let a = both (leb 1 (year_of n)) _ e in
    let b = both (leb (year_of n) 9999) _ a.1 in
    let c = both (leb 1 (month_of n)) _ b.1 in
    let f = both (leb (month_of n) 12) _ c.1 in
    let g = both (leb 1 (day_of n)) _ f.1 in
    record {
      first_year = leb-true 1 (year_of n) a.0;
      last_year = leb-true (year_of n) 9999 b.0;
      first_month = leb-true 1 (month_of n) c.0;
      last_month = leb-true (month_of n) 12 f.0;
      first_day = leb-true 1 (day_of n) g.0;
      last_day = leb-true (day_of n) (month_length (leap (year_of n)) (month_of n)) g.1;
    }

pub date : (n : ℕ) → Day (year_of n) (month_of n) (day_of n) → is_date n ≡ true
unfolding is_date
date n w =
    simp (
      le-leb 1 (year_of n) w.first_year,
      le-leb (year_of n) 9999 w.last_year,
      le-leb 1 (month_of n) w.first_month,
      le-leb (month_of n) 12 w.last_month,
      le-leb 1 (day_of n) w.first_day,
      le-leb (day_of n) (month_length (leap (year_of n)) (month_of n)) w.last_day,
    )

-- a month has 1 to 31 days
abbrev fair : Bool → ℕ → Bool
fair l m = leb 1 (month_length l m) && leb (month_length l m) 31

fair_all : (l : Bool) → all (fair l) 13 ≡ true
fair_all true = refl
fair_all false = refl

pub fair_month : (l : Bool) (m : ℕ) → m ≤ 12 → (1 ≤ month_length l m) × (month_length l m ≤ 31)
fair_month l m h =
    let t = both (leb 1 (month_length l m)) _ (under (fair l) 13 (fair_all l) m (omega arith)) in
    (leb-true 1 (month_length l m) t.0, leb-true (month_length l m) 31 t.1)

-- the day number by the parts
abbrev pub count : ℕ → ℕ → ℕ → ℕ
count y m d = days_of_years (y - 1) + days_of_months (leap y) (m - 1) + d

-- the parts of what is written are those that were written
pub year_written : (y m d : ℕ) → m < 100 → d < 100 → year_of (written y m d) ≡ y
year_written y m d h k = omega arith

pub month_written : (y m d : ℕ) → m < 100 → d < 100 → month_of (written y m d) ≡ m
month_written y m d h k = omega arith

pub day_written : (y m d : ℕ) → m < 100 → d < 100 → day_of (written y m d) ≡ d
day_written y m d h k = omega arith

-- and written again they are the number
pub rewritten : (n : ℕ) → written (year_of n) (month_of n) (day_of n) ≡ n
rewritten n = omega arith

-- a month and a year are as long as the next begins later
pub month_step : (l : Bool) (m : ℕ) → 1 ≤ m → days_of_months l m ≡ days_of_months l (m - 1) + month_length l m
unfolding days_of_months
month_step l zero h = absurd (omega arith)
month_step l (suc m) h = let e : suc m - 1 ≡ m = omega arith in rw e

pub year_step : (y : ℕ) → 1 ≤ y → days_of_years y ≡ days_of_years (y - 1) + year_length (leap y)
unfolding days_of_years
year_step zero h = absurd (omega arith)
year_step (suc y) h = let e : suc y - 1 ≡ y = omega arith in rw e

-- a year has twelve months
pub no_month : (l : Bool) → days_of_months l 0 ≡ 0
unfolding days_of_months
no_month l = refl

pub whole_year : (l : Bool) → days_of_months l 12 ≡ year_length l
unfolding days_of_months
whole_year true = refl
whole_year false = refl

-- the day number of a date, which is 1 or more, and of what is none
pub is_number : (n : ℕ) → is_date n ≡ true → day_number n ≡ days_to n
unfolding day_number
is_number n e = simp e

pub no_number : (n : ℕ) → is_date n ≡ false → day_number n ≡ 0
unfolding day_number
no_number n e = simp e

pub from_one : (n : ℕ) → is_date n ≡ true → 1 ≤ day_number n
unfolding days_to
from_one n e = rw (is_number n e) (omega (arith, (parts n e).first_day))
