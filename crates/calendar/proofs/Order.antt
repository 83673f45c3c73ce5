-- Of two dates the one with the smaller number yyyymmdd is the earlier: day numbers rise with the numbers, so no two dates share one.
-- Assumes nothing.
use mathlib.Core.Path.{◌≡◌, sym, ap, subst, ◌∙◌}
use mathlib.Core.Bool.{Bool, true}
use mathlib.Core.Logic.{⊎_elim}
use Prim.Native.Nat.{ℕ, ◌+◌, ◌-◌, ◌<◌, ◌≤◌}
use native.Mathlib.Omega.{arith}
use lib.Dec.{ltb}
use borrow.Author.Tests.{lt-ltb, le-ltb, ltb-true}
use Rattle.calendar.specs.Calendar.{year_of, month_of, day_of, written, leap, is_date, days_of_years, days_of_months, days_to, day_number}
use Rattle.calendar.proofs.Numbers.{lt_or_le, rising}
use Rattle.calendar.proofs.Dates.{Day, parts, fair_month, count, rewritten, month_step, year_step, whole_year, is_number}

months_rise : (l : Bool) (a b : ℕ) → a ≤ b → days_of_months l a ≤ days_of_months l b
unfolding days_of_months
months_rise l = rising (days_of_months l) (λ k. omega arith)

years_rise : (a b : ℕ) → a ≤ b → days_of_years a ≤ days_of_years b
unfolding days_of_years
years_rise = rising days_of_years (λ k. omega arith)

below : (y m d : ℕ) → Day y m d → (m < 100) × (d < 100)
below y m d w = omega (arith, fair_month (leap y) m w.last_month)

module _ (y m d : ℕ) (w : Day y m d) where
  -- a date lies within its month and its year
  in_month : days_of_months (leap y) (m - 1) + d ≤ days_of_months (leap y) m
  in_month = omega (arith, month_step (leap y) m w.first_month)

  in_year : count y m d ≤ days_of_years y
  in_year = omega (arith, in_month, months_rise (leap y) m 12 w.last_month, whole_year (leap y), year_step y w.first_year)

  same_year : (m' d' : ℕ) → Day y m' d' → m < m' → count y m d < count y m' d'
  same_year m' d' v h = omega (arith, in_month, months_rise (leap y) m (m' - 1) (omega arith))

  later_year : (y' m' d' : ℕ) → Day y' m' d' → y < y' → count y m d < count y' m' d'
  later_year y' m' d' v h = omega (arith, in_year, years_rise y (y' - 1) (omega arith))

  later : (y' m' d' : ℕ) → Day y' m' d' → written y m d < written y' m' d' → count y m d < count y' m' d'
  later y' m' d' v h =
      ⊎_elim (later_year y' m' d' v)
      (λ (k : y' ≤ y).
      let e : y ≡ y' = omega (arith, below y m d w, below y' m' d' v) in
      subst (λ (x : ℕ). count y m d < count x m' d') e
      (⊎_elim (same_year m' d' (subst (λ (x : ℕ). Day x m' d') (sym e) v))
      (λ (j : m' ≤ m).
      let f : m ≡ m' = omega (arith, below y m d w, below y' m' d' v) in
      let i : d < d' = omega arith in
      subst (λ (x : ℕ). count y m d < count y x d') f (omega arith))
      (lt_or_le m m')))
      (lt_or_le y y')

earlier : (a b : ℕ) → is_date a ≡ true → is_date b ≡ true → a < b → days_to a < days_to b
unfolding days_to
earlier a b p q h =
    later (year_of a) (month_of a) (day_of a) (parts a p) (year_of b) (month_of b) (day_of b) (parts b q) (rw (rewritten a, rewritten b) h)

-- the smaller number is the earlier day
pub order : (a b : ℕ) → is_date a ≡ true → is_date b ≡ true → a < b → day_number a < day_number b
order a b p q h = rw (is_number a p, is_number b q) (earlier a b p q h)

-- so dates of one day number are one date
pub one_to_one : (a b : ℕ) → is_date a ≡ true → is_date b ≡ true → day_number a ≡ day_number b → a ≡ b
one_to_one a b p q e =
    ⊎_elim (λ (h : a < b). absurd (omega (arith, order a b p q h)))
    (λ (h : b ≤ a). ⊎_elim (λ (k : b < a). absurd (omega (arith, order b a q p k))) (λ (k : a ≤ b). omega arith) (lt_or_le b a))
    (lt_or_le a b)

-- and comparing the numbers compares the days
pub same_test : (a b : ℕ) → is_date a ≡ true → is_date b ≡ true → ltb (day_number a) (day_number b) ≡ ltb a b
same_test a b p q =
    ⊎_elim (λ (h : a < b). lt-ltb (day_number a) (day_number b) (order a b p q h) ∙ sym (lt-ltb a b h))
    (λ (h : b ≤ a). ⊎_elim
    (λ (k : b < a). le-ltb (day_number a) (day_number b) (omega (arith, order b a q p k)) ∙ sym (le-ltb a b h))
    (λ (k : a ≤ b). let e : a ≡ b = omega arith in
    le-ltb (day_number a) (day_number b) (omega (arith, ap day_number e)) ∙ sym (le-ltb a b h))
    (lt_or_le b a))
    (lt_or_le a b)

-- the earlier day has the smaller number
pub earlier_number : (a b : ℕ) → is_date a ≡ true → is_date b ≡ true → day_number a < day_number b → a < b
earlier_number a b p q h = ltb-true a b (sym (same_test a b p q) ∙ lt-ltb (day_number a) (day_number b) h)
