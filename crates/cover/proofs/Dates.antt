-- The days on which a FEDJEL may have been sent: the days back by the rest of a day number by seven, and that they lead to the last workday.
-- Assumes nothing.
use mathlib.Core.Path.{◌≡◌, refl, sym, ◌∙◌}
use mathlib.Core.Bool.{Bool, true, false, cond, ◌&&◌}
use Prim.Native.Nat.{ℕ, ◌+◌, ◌-◌, ◌%◌, ◌≤◌, ◌<◌}
use native.Mathlib.Omega.{arith}
use lib.Dec.{eqb, leb}
use borrow.Author.Tests.{eqb-true, eqb-false, lt-ltb, le-ltb, leb-true, leb-false, le-leb, lt-leb}
use Rattle.calendar.specs.Calendar.{day_number}
use Rattle.calendar.specs.Workdays.{weekday, is_workday}
use Rattle.std.specs.Prelude.{Ok}
use Rattle.calendar.proofs.Numbers.{all, under}
use Rattle.cover.specs.Head.{days_back, workday_before, sent_on}

abbrev pub tests : ℕ → ℕ
tests w = cond (eqb w 1) 3 (cond (eqb w 0) 2 1)

right : ℕ → Bool
right w = eqb (tests w) (days_back w)

right_all : all right 7 ≡ true
unfolding days_back right
right_all = refl

by_rest : (n : ℕ) → days_back n ≡ days_back (n % 7)
unfolding days_back
by_rest n =
    let e : weekday n ≡ weekday (n % 7) = omega arith in
    simp e

-- the days back, by the rest of the day number
pub back : (n : ℕ) → tests (n % 7) ≡ days_back n
unfolding right
back n = eqb-true (tests (n % 7)) (days_back (n % 7)) (under right 7 right_all (n % 7) (omega arith)) ∙ sym (by_rest n)

-- a day not after E lies from the last workday before E on if it lies no more days back
turned : (e n b : ℕ) → n ≤ e → leb (e - n) b ≡ leb (e - b) n && leb n e
turned e n b h = go (leb (e - n) b) refl
  where
    go : (t : Bool) → leb (e - n) b ≡ t → t ≡ leb (e - b) n && leb n e
    go true t =
        let k = leb-true (e - n) b t in
        let i : leb (e - b) n ≡ true = le-leb (e - b) n (omega (arith, k, h)) in
        let j : leb n e ≡ true = le-leb n e h in
        simp (i, j)
    go false t =
        let k = leb-false (e - n) b t in
        let i : leb (e - b) n ≡ false = lt-leb (e - b) n (omega (arith, k, h)) in
        simp i

pub late : (e d : ℕ) → day_number e < day_number d → false ≡ sent_on e (Ok d)
unfolding sent_on
late e d h = go (leb (workday_before (day_number e)) (day_number d)) (lt-leb (day_number d) (day_number e) h)
  where
    go : (b : Bool) {c : Bool} → c ≡ false → false ≡ b && c
    go true q = sym q
    go false q = refl

pub sent : (e d : ℕ) → day_number d ≤ day_number e → leb (day_number e - day_number d) (days_back (day_number e)) ≡ sent_on e (Ok d)
unfolding sent_on workday_before
sent e d h = turned (day_number e) (day_number d) (days_back (day_number e)) h

-- the last workday before a day: earlier, a workday, and no workday lies between
pub record Last (n w : ℕ) : Type 0 where
  pub earlier : w < n
  pub workday : is_workday w ≡ true
  pub none_between : (k : ℕ) → w < k → k < n → is_workday k ≡ false

-- the days back lead to it, for every day but the first, which has none
pub last_workday : (n : ℕ) → 1 < n → Last n (workday_before n)
unfolding workday_before
last_workday n h =
    let b = back n in
    go (eqb (n % 7) 1) refl (eqb (n % 7) 0) refl b
  where
    of : (d : ℕ) → d ≡ days_back n → n - d < n → (n - d + 6) % 7 < 5 → ((k : ℕ) → n - d < k → k < n → 5 ≤ (k + 6) % 7) → Last n (n - days_back n)
    of d e a w f =
        rw (← e)
        (record {
          earlier = a;
          workday = lt-ltb ((n - d + 6) % 7) 5 w;
          none_between = λ k i j. le-ltb ((k + 6) % 7) 5 (f k i j);
        })

    go : (x : Bool) → eqb (n % 7) 1 ≡ x → (y : Bool) → eqb (n % 7) 0 ≡ y → cond x 3 (cond y 2 1) ≡ days_back n → Last n (n - days_back n)
    go true p y q d =
        let r = eqb-true (n % 7) 1 p in
        of 3 d (omega arith) (omega (arith, r)) (λ k i j. omega (arith, r, i, j))
    go false p true q d =
        let r = eqb-true (n % 7) 0 q in
        of 2 d (omega arith) (omega (arith, r)) (λ k i j. omega (arith, r, i, j))
    go false p false q d =
        let r = eqb-false (n % 7) 1 p in
        let s = eqb-false (n % 7) 0 q in
        of 1 d (omega arith) (omega (arith, r, s)) (λ k i j. absurd (omega (arith, i, j)))
