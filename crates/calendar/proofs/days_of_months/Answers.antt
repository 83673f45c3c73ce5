-- `calendar::days_of_months` meets its contract: the formula is right at each month, which is one test that antt computes.
-- Assumes nothing.
use mathlib.Core.Path.{◌≡◌, refl, sym, ap, ◌∙◌}
use mathlib.Core.Bool.{Bool, true, false, cond}
use Prim.Native.Nat.{ℕ, ◌+◌, ◌-◌, ◌*◌, ◌/◌, ◌<◌, ◌≤◌}
use native.Mathlib.Omega.{arith}
use lib.Dec.{eqb, ltb}
use borrow.Author.Tests.{lt-ltb, le-ltb, eqb-true}
use Rattle.calendar.specs.Calendar.{days_of_months}
use Rattle.calendar.proofs.Numbers.{all, under}
use Rattle.calendar.proofs.days_of_months.Goals as goal

abbrev n : ℕ → ℕ
n m = (m * 367 + 5) / 12

abbrev formula : Bool → ℕ → ℕ
formula l m = cond (ltb m 2) (n m) (cond l (n m - 1) (n m - 2))

abbrev right : Bool → ℕ → Bool
right l m = eqb (formula l m) (days_of_months l m)

right_all : (l : Bool) → all (right l) 12 ≡ true
unfolding days_of_months
right_all true = refl
right_all false = refl

is : (l : Bool) (m : ℕ) → m ≤ 11 → formula l m ≡ days_of_months l m
is l m h = eqb-true (formula l m) (days_of_months l m) (under (right l) 12 (right_all l) m (omega arith))

early : (l : Bool) (m : ℕ) → m ≤ 11 → m < 2 → n m ≡ days_of_months l m
early l m h k = simp (lt-ltb m 2 k) at (is l m h)

late : (l : Bool) (m : ℕ) → m ≤ 11 → 2 ≤ m → (b : Bool) → l ≡ b → cond b (n m - 1) (n m - 2) ≡ days_of_months l m
late l m h k b e = sym (ap (λ (x : Bool). cond x (n m - 1) (n m - 2)) e) ∙ simp (le-ltb m 2 k) at (is l m h)

pub returns-then-m-lt2 : goal.returns-then-m-lt2
returns-then-m-lt2 c = (early c.args.is_leap c.args.m c.requires c.if-m-lt2.true, omega arith)

pub returns-then-is_leap : goal.returns-then-is_leap
returns-then-is_leap c =
    let a = c.args in
    (late a.is_leap a.m c.requires c.if-m-lt2.false true c.if-is_leap.true, omega arith)

pub returns : goal.returns
returns c =
    let a = c.args in
    (late a.is_leap a.m c.requires c.if-m-lt2.false false c.if-is_leap.false, omega arith)
