-- `calendar::month_length` meets its contract: the formula is right at each month but the second, which is one test that antt computes.
-- Assumes nothing.
use mathlib.Core.Path.{◌≡◌, refl, sym, ap, ◌∙◌}
use mathlib.Core.Bool.{Bool, true, false, ◌||◌}
use Prim.Native.Nat.{ℕ, ◌+◌, ◌/◌, ◌%◌, ◌≤◌}
use native.Mathlib.Omega.{arith}
use lib.Dec.{eqb}
use borrow.Author.Tests.{ne_eqb, eqb-true}
use Rattle.calendar.specs.Calendar.{month_length}
use Rattle.calendar.proofs.Numbers.{all, under}
use Rattle.calendar.proofs.month_length.Goals as goal

abbrev formula : ℕ → ℕ
formula m = 30 + (m + m / 8) % 2

abbrev right : Bool → ℕ → Bool
right l m = eqb m 0 || (eqb m 2 || eqb (formula m) (month_length l m))

right_all : (l : Bool) → all (right l) 13 ≡ true
right_all true = refl
right_all false = refl

is : (l : Bool) (m : ℕ) → 1 ≤ m → m ≤ 12 → (m ≡ 2 → ⊥) → formula m ≡ month_length l m
is l m h k f =
    eqb-true (formula m) (month_length l m)
    (simp (ne_eqb m 0 (λ e. omega arith), ne_eqb m 2 f) at (under (right l) 13 (right_all l) m (omega arith)))

february : (l b : Bool) (m : ℕ) → m ≡ 2 → l ≡ b → month_length b 2 ≡ month_length l m
february l b m e f = sym (ap (λ (x : Bool). month_length x 2) f) ∙ sym (ap (month_length l) e)

pub returns-then-is_leap : goal.returns-then-is_leap
returns-then-is_leap c = february c.args.is_leap true c.args.m c.if-m-eq2.true c.if-is_leap.true

pub returns-then-m-eq2 : goal.returns-then-m-eq2
returns-then-m-eq2 c = february c.args.is_leap false c.args.m c.if-m-eq2.true c.if-is_leap.false

pub returns : goal.returns
returns c = is c.args.is_leap c.args.m c.requires.0 c.requires.1 c.if-m-eq2.false
