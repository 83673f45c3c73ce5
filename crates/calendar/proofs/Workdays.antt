-- Weekdays go round by seven; the next workday is the first one after a day; the eighth lies as many days on as its table says.
-- Assumes nothing.
use mathlib.Core.Path.{◌≡◌, refl, sym, ap, ◌∙◌}
use mathlib.Core.Bool.{Bool, true, false, cond, ◌&&◌}
use mathlib.Core.Logic.{⊎_elim}
use Prim.Native.Nat.{ℕ, zero, suc, ◌+◌, ◌*◌, ◌/◌, ◌%◌, ◌<◌, ◌≤◌}
use native.Mathlib.Nat.{div-add-mod', mod-lt}
use native.Mathlib.Omega.{arith}
use lib.Dec.{eqb, ltb, lit<}
use borrow.Author.Tests.{ltb-true, eqb-true}
use Rattle.base.proofs.Every.{both}
use Rattle.calendar.specs.Calendar.{leap, is_date, days_of_years, days_of_months, days_to, day_number, day_after, is_within}
use Rattle.calendar.specs.Workdays.{weekday, is_workday, soonest, next_workday, workday_after, days_to_eighth, is_due}
use Rattle.calendar.proofs.Numbers.{all, under, lt_or_le}
use Rattle.calendar.proofs.Next.{next_number}

-- the first date is a Monday
pub first_monday : weekday (day_number 10101) ≡ 0
unfolding leap is_date days_of_years days_of_months days_to day_number
first_monday = refl

-- the day after a date has the next weekday, round by seven
day_on : (n : ℕ) → weekday (n + 1) ≡ (weekday n + 1) % 7
day_on n = omega arith

pub next_weekday : (n : ℕ) → is_date n ≡ true → (n ≡ 99991231 → ⊥) → weekday (day_number (day_after n)) ≡ (weekday (day_number n) + 1) % 7
next_weekday n e f = ap weekday (next_number n e f) ∙ day_on (day_number n)

-- a week on, and any number of weeks on, the weekday is the same
pub week_on : (n : ℕ) → weekday (n + 7) ≡ weekday n
week_on n = omega arith

pub weeks_on : (q n : ℕ) → weekday (q * 7 + n) ≡ weekday n
weeks_on q n = omega arith

-- the first workday after a day: later, a workday, and no workday lies between
pub record First (n m : ℕ) : Type 0 where
  pub later : n < m
  pub workday : is_workday m ≡ true
  pub none_between : (k : ℕ) → n < k → k < m → is_workday k ≡ false

-- a day before the one found was looked at, and is no workday
looked : (n k m : ℕ) (b : Bool) → is_workday (n + 1) ≡ b → n < k → (n + 1 < k → k < m → is_workday k ≡ false) → k < cond b (n + 1) m → is_workday k ≡ false
looked n k m true e h f l = absurd (omega arith)
looked n k m false e h f l =
    ⊎_elim (λ (i : n + 1 < k). f i l) (λ (i : k ≤ n + 1). let g : k ≡ n + 1 = omega arith in ap is_workday g ∙ e) (lt_or_le (n + 1) k)

none : (f n k : ℕ) → n < k → k < soonest f n → is_workday k ≡ false
unfolding soonest
none zero n k h l = absurd (omega arith)
none (suc f) n k h l = looked n k (soonest f (n + 1)) (is_workday (n + 1)) refl h (none f (n + 1) k) l

-- weeks on, the first workday is as much later
one_of : (b : Bool) (w x y z : ℕ) → y ≡ w + z → cond b (w + x) y ≡ w + cond b x z
one_of true w x y z e = refl
one_of false w x y z e = e

soonest_on : (f q n : ℕ) → soonest f (q * 7 + n) ≡ q * 7 + soonest f n
unfolding soonest
soonest_on zero q n = refl
soonest_on (suc f) q n =
    let e : q * 7 + n + 1 ≡ q * 7 + (n + 1) = omega arith in
    rw (e, weeks_on q (n + 1)) (one_of (is_workday (n + 1)) (q * 7) (n + 1) (soonest f (q * 7 + (n + 1))) (soonest f (n + 1)) (soonest_on f q (n + 1)))

workdays_on : (k q n : ℕ) → workday_after k (q * 7 + n) ≡ q * 7 + workday_after k n
unfolding workday_after next_workday
workdays_on zero q n = refl
workdays_on (suc k) q n = rw (soonest_on 7 q n) (workdays_on k q (next_workday n))

-- what the days of one week show
abbrev found : ℕ → Bool
found r = ltb r (next_workday r) && is_workday (next_workday r)

found_all : all found 7 ≡ true
unfolding next_workday soonest
found_all = refl

abbrev right : ℕ → Bool
right r = eqb (workday_after 8 r) (r + days_to_eighth r)

right_all : all right 7 ≡ true
unfolding workday_after next_workday soonest days_to_eighth
right_all = refl

-- a number is some weeks and a day of the first
module _ (n : ℕ) where
  parted : n / 7 * 7 + n % 7 ≡ n
  parted = div-add-mod' n 7

  rest : n % 7 < 7
  rest = mod-lt n (lit< tt)

pub next_workday_lem : (n : ℕ) → First n (next_workday n)
unfolding next_workday
next_workday_lem n =
    let t = both (ltb (n % 7) (next_workday (n % 7))) _ (under found 7 found_all (n % 7) (rest n)) in
    let e : next_workday n ≡ n / 7 * 7 + next_workday (n % 7) = ap next_workday (sym (parted n)) ∙ soonest_on 7 (n / 7) (n % 7) in
    record {
      later = omega (arith, ltb-true (n % 7) (next_workday (n % 7)) t.0, parted n);
      workday = ap is_workday e ∙ ap (λ (w : ℕ). ltb w 5) (weeks_on (n / 7) (next_workday (n % 7))) ∙ t.1;
      none_between = none 7 n;
    }

-- the table goes by the weekday, so by what is left by seven
pub table_by_rest : (n : ℕ) → days_to_eighth n ≡ days_to_eighth (n % 7)
unfolding days_to_eighth
table_by_rest n = ap days_to_eighth (sym (parted n)) ∙ rw (weeks_on (n / 7) (n % 7))

-- the eighth workday after a day, stepped to, is as many days on as the table says
pub eighth : (n : ℕ) → workday_after 8 n ≡ n + days_to_eighth n
eighth n =
    let e = eqb-true (workday_after 8 (n % 7)) (n % 7 + days_to_eighth (n % 7)) (under right 7 right_all (n % 7) (rest n)) in
    let g : workday_after 8 n ≡ n / 7 * 7 + workday_after 8 (n % 7) = ap (workday_after 8) (sym (parted n)) ∙ workdays_on 8 (n / 7) (n % 7) in
    omega (arith, parted n, table_by_rest n)

-- so an item is due within that many days of E
pub due_within : (e d : ℕ) → is_due e d ≡ is_within e d (days_to_eighth (day_number e))
unfolding is_due is_within
due_within e d = rw (eighth (day_number e))
