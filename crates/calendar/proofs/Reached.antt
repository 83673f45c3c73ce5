-- A date lies within k days after another exactly if at most k steps to the day after lead there.
-- Assumes nothing.
use mathlib.Core.Path.{◌≡◌, refl, sym, ap, subst, ◌∙◌}
use mathlib.Core.Bool.{true}
use mathlib.Core.Logic.{⊎_elim}
use Prim.Native.Nat.{ℕ, zero, suc, ◌+◌, ◌-◌, ◌<◌, ◌≤◌}
use native.Mathlib.Nat.{le_trans}
use native.Mathlib.Omega.{arith}
use lib.Dec.{leb}
use borrow.Author.Tests.{leb-true, le-leb}
use Rattle.base.proofs.Every.{both}
use Rattle.calendar.specs.Calendar.{year_of, month_of, day_of, written, leap, month_length, is_date, day_number, day_after, after, is_within}
use Rattle.calendar.proofs.Numbers.{lt_or_le}
use Rattle.calendar.proofs.Dates.{parts, fair_month, rewritten}
use Rattle.calendar.proofs.Next.{next_date, next_number, stays, turns, ends}
use Rattle.calendar.proofs.Order.{earlier_number, one_to_one}

-- no date comes after the last
last : (n : ℕ) → is_date n ≡ true → n ≤ 99991231
last n e =
    let w = parts n e in
    omega (arith, rewritten n, fair_month (leap (year_of n)) (month_of n) w.last_month)

least : (z y m d : ℕ) → z ≤ y → z ≤ year_of (written y m d)
least z y m d h = omega arith

-- no step goes back to an earlier year
on : (n : ℕ) → year_of n ≤ year_of (day_after n)
on n =
    let y = year_of n in
    let m = month_of n in
    let d = day_of n in
    ⊎_elim (λ h. subst (λ (x : ℕ). y ≤ year_of x) (sym (stays n h)) (least y y m (d + 1) (omega arith)))
    (λ h. ⊎_elim
    (λ k. subst (λ (x : ℕ). y ≤ year_of x) (sym (turns n h k)) (least y y (m + 1) 1 (omega arith)))
    (λ k. subst (λ (x : ℕ). y ≤ year_of x) (sym (ends n h k)) (least y (y + 1) 1 1 (omega arith)))
    (lt_or_le m 12))
    (lt_or_le d (month_length (leap y) m))

far : (k n : ℕ) → year_of n ≤ year_of (after k n)
unfolding after
far zero n = omega arith
far (suc k) n = le_trans (on n) (far k (day_after n))

-- the step from the last date leaves the years that dates have
past : year_of (day_after 99991231) ≡ 10000
unfolding day_after leap
past = refl

-- a date that k steps lead to has a day number greater by k
steps : (k a : ℕ) → is_date a ≡ true → is_date (after k a) ≡ true → day_number (after k a) ≡ day_number a + k
unfolding after
steps zero a p q = omega arith
steps (suc k) a p q =
    ⊎_elim
    (λ (h : a < 99991231).
    let f : a ≡ 99991231 → ⊥ = λ e. omega arith in
    omega (arith, steps k (day_after a) (next_date a p f) q, next_number a p f))
    (λ (h : 99991231 ≤ a).
    let e : a ≡ 99991231 = omega (arith, last a p) in
    let w = parts (after k (day_after a)) q in
    absurd (omega (arith, ap (λ (x : ℕ). year_of (day_after x)) e, past, far k (day_after a), w.last_year)))
    (lt_or_le a 99991231)

-- and k steps lead to the date with that day number
leads : (k a b : ℕ) → is_date a ≡ true → is_date b ≡ true → day_number a + k ≡ day_number b → after k a ≡ b
unfolding after
leads zero a b p q e = one_to_one a b p q (omega arith)
leads (suc k) a b p q e =
    let h : a < b = earlier_number a b p q (omega arith) in
    let f : a ≡ 99991231 → ⊥ = λ g. omega (arith, last b q) in
    leads k (day_after a) b (next_date a p f) q (omega (arith, next_number a p f))

-- within k days means reached by at most k steps, and reached so means within
module _ (a b k : ℕ) (p : is_date a ≡ true) (q : is_date b ≡ true) where
  pub reached : is_within a b k ≡ true → (j : ℕ) × (j ≤ k) × (after j a ≡ b)
  unfolding is_within
  reached e =
      let t = both (is_date a) _ e in
      let u = both (is_date b) _ t.1 in
      let v = both (leb (day_number a) (day_number b)) _ u.1 in
      let h = leb-true (day_number a) (day_number b) v.0 in
      let i = leb-true (day_number b) (day_number a + k) v.1 in
      (day_number b - day_number a, omega arith, leads (day_number b - day_number a) a b p q (omega arith))

  pub within : (j : ℕ) × (j ≤ k) × (after j a ≡ b) → is_within a b k ≡ true
  unfolding is_within
  within w =
      let e = steps w.0 a p (ap is_date w.2 ∙ q) in
      let f = ap day_number w.2 in
      let h = w.1 in
      simp (p, q, le-leb (day_number a) (day_number b) (omega arith), le-leb (day_number b) (day_number a + k) (omega arith))
