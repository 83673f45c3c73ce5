-- The days of the years 1 to y by a closed formula: 365 for each, one more for each fourth, but not for the hundreds, yet for each fourth of those.
-- Assumes nothing.
use mathlib.Core.Path.{◌≡◌, refl, sym, ap, ◌∙◌}
use mathlib.Core.Bool.{Bool, true, false, cond, not, ◌&&◌, ◌||◌, false≢true}
use mathlib.Core.Logic.{⊎_elim}
use Prim.Native.Nat.{ℕ, zero, suc, ◌+◌, ◌-◌, ◌*◌, ◌/◌, ◌%◌, ◌<◌, ◌≤◌}
use native.Mathlib.Nat.{div-add-mod', div-eq_of_lt, div_self, dvd_of_mod-eq-zero, eq-or-lt_of_le, mul-add-div_right, mul-add-mod_self_right}
use native.Mathlib.Nat.{mod-eq_of_lt, mod-lt, mod-mod_of_dvd, mod_self, zero-mod}
use native.Mathlib.Omega.{arith}
use lib.Dec.{eqb, lit<}
use borrow.Author.Tests.{eqb-true, eq-eqb, ne_eqb}
use Rattle.calendar.specs.Calendar.{leap, year_length, days_of_years}

abbrev one : Bool → ℕ
one b = cond b 1 0

abbrev pub formula : ℕ → ℕ
formula y = y * 365 + y / 4 - y / 100 + y / 400

-- a quotient is one more at a multiple, and else the same
last : (c r : ℕ) → 0 < c → r < c → suc r / c ≡ one (eqb (suc r % c) 0)
last c r g h = ⊎_elim
    (λ (e : suc r ≡ c). rw e (div_self g ∙ rw (mod_self c)))
    (λ (l : suc r < c). rw (div-eq_of_lt l, mod-eq_of_lt l, ne_eqb (suc r) 0 (λ e. omega arith)))
    (eq-or-lt_of_le h)

quotient : (c p : ℕ) → 0 < c → suc p / c ≡ p / c + one (eqb (suc p % c) 0)
quotient c p g =
    let e : suc p ≡ p / c * c + suc (p % c) = omega (arith, div-add-mod' p c) in
    rw (e, mul-add-div_right g (p / c) (suc (p % c)), mul-add-mod_self_right (p / c) c (suc (p % c)))
    (ap (λ (x : ℕ). p / c + x) (last c (p % c) g (mod-lt p g)))

-- a multiple of b is one of c, which divides b
multiple : (b c y : ℕ) → b % c ≡ 0 → eqb (y % b) 0 ≡ true → eqb (y % c) 0 ≡ true
multiple b c y d e =
    eq-eqb (y % c) 0 (sym (mod-mod_of_dvd c y (dvd_of_mod-eq-zero c d)) ∙ ap (λ (x : ℕ). x % c) (eqb-true (y % b) 0 e) ∙ zero-mod c)

-- the next year by its three quotients, with what is added to each
rest : (p u v w : ℕ) → v ≤ p → (a b c : Bool) → (b ≡ true → a ≡ true) → (c ≡ true → b ≡ true)
    → suc p * 365 + (u + one a) - (v + one b) + (w + one c) ≡ p * 365 + u - v + w + year_length (a && (not b || c))
rest p u v w h true true true f g = omega arith
rest p u v w h true true false f g = omega arith
rest p u v w h true false true f g = absurd (false≢true (g refl))
rest p u v w h true false false f g = omega arith
rest p u v w h false true c f g = absurd (false≢true (f refl))
rest p u v w h false false true f g = absurd (false≢true (g refl))
rest p u v w h false false false f g = omega arith

next : (p : ℕ) → formula (suc p) ≡ formula p + year_length (leap (suc p))
unfolding leap
next p =
    rw (quotient 4 p (lit< tt), quotient 100 p (lit< tt), quotient 400 p (lit< tt))
    (rest p (p / 4) (p / 100) (p / 400) (omega arith) (eqb (suc p % 4) 0) (eqb (suc p % 100) 0) (eqb (suc p % 400) 0)
    (multiple 100 4 (suc p) refl) (multiple 400 100 (suc p) refl))

-- the closed formula counts the days of the years 1 to y
pub years : (y : ℕ) → days_of_years y ≡ formula y
unfolding days_of_years
years zero = refl
years (suc p) = ap (λ (x : ℕ). x + year_length (leap (suc p))) (years p) ∙ sym (next p)
