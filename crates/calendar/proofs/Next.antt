-- The day after a date has the next day number, and is a date but after the last one.
-- Assumes nothing.
use mathlib.Core.Path.{◌≡◌, sym, ap, ◌∙◌}
use mathlib.Core.Bool.{true}
use mathlib.Core.Logic.{⊎_elim}
use Prim.Native.Nat.{ℕ, ◌+◌, ◌-◌, ◌<◌, ◌≤◌}
use native.Mathlib.Omega.{arith}
use lib.Dec.{lit<, lit≤}
use borrow.Author.Tests.{lt-ltb, le-ltb}
use Rattle.calendar.specs.Calendar.{year_of, month_of, day_of, written, leap, month_length, year_length, is_date, days_of_months, days_to, day_number}
use Rattle.calendar.specs.Calendar.{day_after}
use Rattle.calendar.proofs.Numbers.{lt_or_le}
use Rattle.calendar.proofs.Dates.{Day, parts, date, fair_month, no_month, count, month_step, year_step, whole_year, is_number}
use Rattle.calendar.proofs.Dates.{year_written, month_written, day_written, rewritten}

-- from a date to the next, by their parts
record Step (y m d y' m' d' : ℕ) : Type 0 where
  number : count y' m' d' ≡ count y m d + 1
  day : (written y m d ≡ 99991231 → ⊥) → Day y' m' d'
  month_fits : m' < 100
  day_fits : d' < 100

module _ (y m d : ℕ) (w : Day y m d) where
  in_month : d < month_length (leap y) m → Step y m d y m (d + 1)
  in_month h =
      record {
        number = omega arith;
        day = λ f. record {
          first_year = w.first_year;
          last_year = w.last_year;
          first_month = w.first_month;
          last_month = w.last_month;
          first_day = omega arith;
          last_day = omega arith;
        };
        month_fits = omega arith;
        day_fits = omega (arith, fair_month (leap y) m w.last_month);
      }

  module _ (full : month_length (leap y) m ≤ d) where
    next_month : m < 12 → Step y m d y (m + 1) 1
    next_month h =
        let e : m + 1 - 1 ≡ m = omega arith in
        record {
          number = rw e (omega (arith, month_step (leap y) m w.first_month));
          day = λ f. record {
            first_year = w.first_year;
            last_year = w.last_year;
            first_month = omega arith;
            last_month = omega arith;
            first_day = lit≤ tt;
            last_day = (fair_month (leap y) (m + 1) (omega arith)).0;
          };
          month_fits = omega arith;
          day_fits = lit< tt;
        }

    last : (written y m d ≡ 99991231 → ⊥) → 12 ≤ m → month_length (leap y) m ≡ 31 → y + 1 ≤ 9999
    last f h e = omega arith

    next_year : 12 ≤ m → Step y m d (y + 1) 1 1
    next_year h =
        let e : y + 1 - 1 ≡ y = omega arith in
        let k : m ≡ 12 = omega arith in
        let december : month_length (leap y) m ≡ 31 = ap (month_length (leap y)) k in
        let all : days_of_months (leap y) m ≡ year_length (leap y) = ap (days_of_months (leap y)) k ∙ whole_year (leap y) in
        record {
          number = rw (e, no_month (leap (y + 1))) (omega (arith, month_step (leap y) m w.first_month, year_step y w.first_year));
          day = λ f. record {
            first_year = omega arith;
            last_year = last f h december;
            first_month = lit≤ tt;
            last_month = lit≤ tt;
            first_day = lit≤ tt;
            last_day = lit≤ tt;
          };
          month_fits = lit< tt;
          day_fits = lit< tt;
        }

-- the three cases of the day after
module _ (n : ℕ) where
  pub stays : day_of n < month_length (leap (year_of n)) (month_of n) → day_after n ≡ written (year_of n) (month_of n) (day_of n + 1)
  unfolding day_after
  stays h = simp (lt-ltb (day_of n) (month_length (leap (year_of n)) (month_of n)) h)

  pub turns : month_length (leap (year_of n)) (month_of n) ≤ day_of n → month_of n < 12 → day_after n ≡ written (year_of n) (month_of n + 1) 1
  unfolding day_after
  turns h k = simp (le-ltb (day_of n) (month_length (leap (year_of n)) (month_of n)) h, lt-ltb (month_of n) 12 k)

  pub ends : month_length (leap (year_of n)) (month_of n) ≤ day_of n → 12 ≤ month_of n → day_after n ≡ written (year_of n + 1) 1 1
  unfolding day_after
  ends h k = simp (le-ltb (day_of n) (month_length (leap (year_of n)) (month_of n)) h, le-ltb (month_of n) 12 k)

record Next (n n' : ℕ) : Type 0 where
  number : days_to n' ≡ days_to n + 1
  is_date_lem : (n ≡ 99991231 → ⊥) → is_date n' ≡ true

by_parts : (n n' y m d : ℕ) → n' ≡ written y m d → Step (year_of n) (month_of n) (day_of n) y m d → Next n n'
unfolding days_to
by_parts n n' y m d e s =
    let p : year_of n' ≡ y = ap year_of e ∙ year_written y m d s.month_fits s.day_fits in
    let q : month_of n' ≡ m = ap month_of e ∙ month_written y m d s.month_fits s.day_fits in
    let r : day_of n' ≡ d = ap day_of e ∙ day_written y m d s.month_fits s.day_fits in
    record {
      number = rw (p, q, r) s.number;
      is_date_lem = λ f. date n' (rw (p, q, r) (s.day (λ g. f (sym (rewritten n) ∙ g))));
    }

follows : (n : ℕ) → is_date n ≡ true → Next n (day_after n)
follows n e =
    let y = year_of n in
    let m = month_of n in
    let d = day_of n in
    let w = parts n e in
    ⊎_elim
    (λ h. by_parts n (day_after n) y m (d + 1) (stays n h) (in_month y m d w h))
    (λ h. ⊎_elim
    (λ k. by_parts n (day_after n) y (m + 1) 1 (turns n h k) (next_month y m d w h k))
    (λ k. by_parts n (day_after n) (y + 1) 1 1 (ends n h k) (next_year y m d w h k))
    (lt_or_le m 12))
    (lt_or_le d (month_length (leap y) m))

-- the day after a date is one day later
pub next_day : (n : ℕ) → is_date n ≡ true → days_to (day_after n) ≡ days_to n + 1
next_day n e = (follows n e).number

-- and a date, but for the last
pub next_date : (n : ℕ) → is_date n ≡ true → (n ≡ 99991231 → ⊥) → is_date (day_after n) ≡ true
next_date n e = (follows n e).is_date_lem

-- so the day number of the day after is the next one
pub next_number : (n : ℕ) → is_date n ≡ true → (n ≡ 99991231 → ⊥) → day_number (day_after n) ≡ day_number n + 1
next_number n e f = rw (is_number n e, is_number (day_after n) (next_date n e f)) (next_day n e)
