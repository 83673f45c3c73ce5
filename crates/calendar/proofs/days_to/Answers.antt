-- `calendar::days_to` meets its contract: the days of the years before are the closed formula's.
-- Assumes nothing.
use mathlib.Core.Path.{◌≡◌, sym, ap, ◌∙◌}
use mathlib.Core.Bool.{Bool}
use Prim.Native.Nat.{ℕ, ◌+◌, ◌-◌, ◌<◌, ◌≤◌}
use native.Mathlib.Omega.{arith}
use Rattle.calendar.specs.Calendar.{year_of, month_of, day_of, leap, days_of_years, days_of_months, days_to}
use Rattle.calendar.proofs.Years.{formula, years}
use Rattle.calendar.proofs.Dates.{parts}
use Rattle.calendar.proofs.days_to.Goals as goal

is : (n : ℕ) (l : Bool) → l ≡ leap (year_of n) → (x : ℕ) → x ≡ days_of_months l (month_of n - 1)
    → formula (year_of n - 1) + x + day_of n ≡ days_to n
unfolding days_to
is n l e x f =
    ap (λ (z : ℕ). z + x + day_of n) (sym (years (year_of n - 1)))
    ∙ ap (λ (z : ℕ). days_of_years (year_of n - 1) + z + day_of n) (f ∙ ap (λ (b : Bool). days_of_months b (month_of n - 1)) e)

small : (p x d : ℕ) → p < 9999 → x ≤ 400 → d < 100 → formula p + x + d < 4000000
small p x d h k i = omega arith

pub overflow_sub-p : goal.overflow_sub-p
overflow_sub-p c = omega (arith, (parts c.args.n c.requires).first_year)

pub overflow_sub-q : goal.overflow_sub-q
overflow_sub-q c = omega (arith, (parts c.args.n c.requires).first_month)

pub days_of_months-requires : goal.days_of_months-requires
days_of_months-requires c = omega (arith, (parts c.args.n c.requires).last_month)

pub overflow_add-result-4 : goal.overflow_add-result-4
overflow_add-result-4 c =
    let n = c.args.n in
    let w = parts n c.requires in
    let h = small (year_of n - 1) c.days_of_months.result (day_of n) (omega arith) c.days_of_months.ensures.1 (omega arith) in
    omega arith

pub returns : goal.returns
returns c = is c.args.n c.is_leap.result c.is_leap.ensures c.days_of_months.result c.days_of_months.ensures.0
