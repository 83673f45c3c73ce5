-- `calendar::days_to_eighth` meets its contract: right for each day of a week, which is one test that antt computes.
-- Assumes nothing.
use mathlib.Core.Path.{◌≡◌, refl, sym, ◌∙◌}
use mathlib.Core.Bool.{Bool, true, cond}
use Prim.Native.Nat.{ℕ, ◌%◌}
use native.Mathlib.Omega.{arith}
use lib.Dec.{eqb, ltb}
use borrow.Author.Tests.{eqb-true, lt-ltb, le-ltb}
use Rattle.calendar.specs.Workdays.{days_to_eighth}
use Rattle.calendar.proofs.Numbers.{all, under}
use Rattle.calendar.proofs.Workdays.{table_by_rest}
use Rattle.calendar.proofs.days_to_eighth.Goals as goal

abbrev tests : ℕ → ℕ
tests w = cond (ltb w 3) 10 (cond (ltb w 6) 12 11)

abbrev right : ℕ → Bool
right w = eqb (tests w) (days_to_eighth w)

right_all : all right 7 ≡ true
unfolding days_to_eighth
right_all = refl

is : (n : ℕ) → tests (n % 7) ≡ days_to_eighth n
is n = eqb-true (tests (n % 7)) (days_to_eighth (n % 7)) (under right 7 right_all (n % 7) (omega arith)) ∙ sym (table_by_rest n)

pub returns-then-w-lt3 : goal.returns-then-w-lt3
returns-then-w-lt3 c = simp (lt-ltb (c.args.n % 7) 3 c.if-w-lt3.true) at (is c.args.n)

pub returns-then-w-lt6 : goal.returns-then-w-lt6
returns-then-w-lt6 c =
    let n = c.args.n in
    simp (le-ltb (n % 7) 3 c.if-w-lt3.false, lt-ltb (n % 7) 6 c.if-w-lt6.true) at (is n)

pub returns : goal.returns
returns c =
    let n = c.args.n in
    simp (le-ltb (n % 7) 3 c.if-w-lt3.false, le-ltb (n % 7) 6 c.if-w-lt6.false) at (is n)
