-- How many digits a number has: at most 20, and enough for a u64; and the count of them, a tenth at a time.
-- Assumes nothing.
use mathlib.Core.Path.{◌≡◌}
use mathlib.Core.Logic.{⊎_elim}
use Prim.Native.Nat.{ℕ, zero, suc, ◌+◌, ◌*◌, ◌/◌, ◌^◌, ◌<◌, ◌≤◌}
use native.Mathlib.Nat.{pow-suc, pow-le-pow_right, div-lt_iff_lt-mul}
use native.Mathlib.Numerals.{add-one}
use native.Mathlib.Omega.{arith}
use lib.Dec.{lit<}
use borrow.Author.Tests.{lt-ltb, le-ltb}
use Rattle.calendar.proofs.Numbers.{lt_or_le}
use Rattle.lines.specs.Slip.{places_in, places}

last : (k n : ℕ) → n < 10 → places_in k n ≡ 1
last zero n h = omega arith
last (suc k) n h = simp (lt-ltb n 10 h)

turn : (k n : ℕ) → 10 ≤ n → places_in (suc k) n ≡ places_in k (n / 10) + 1
turn k n h = simp (le-ltb n 10 h)

tenth : (k n : ℕ) → n < 10 ^ suc k → n / 10 < 10 ^ k
tenth k n h = (div-lt_iff_lt-mul (lit< tt)).1 (rw pow-suc at h)

few_in : (k n : ℕ) → places_in k n ≤ suc k
few_in zero n = omega arith
few_in (suc k) n =
    ⊎_elim (λ (l : n < 10). omega (arith, last (suc k) n l))
    (λ (l : 10 ≤ n). omega (arith, turn k n l, few_in k (n / 10)))
    (lt_or_le n 10)

pub few : (n : ℕ) → places n ≤ 20
unfolding places
few n = few_in 19 n

enough_in : (k n : ℕ) → n < 10 ^ suc k → n < 10 ^ places_in k n
enough_in zero n h = h
enough_in (suc k) n h =
    ⊎_elim (λ (l : n < 10). rw (last (suc k) n l) l)
    (λ (l : 10 ≤ n). rw (turn k n l, add-one, pow-suc) ((div-lt_iff_lt-mul (lit< tt)).0 (enough_in k (n / 10) (tenth (suc k) n h))))
    (lt_or_le n 10)

pub enough : (n : ℕ) → n < 18446744073709551616 → n < 10 ^ places n
unfolding places
enough n h = enough_in 19 n (omega arith)

-- a number from the k-th power of ten on, and below the next, has one digit more than k
pub exact : (k j n : ℕ) → 10 ^ k ≤ n → n < 10 * 10 ^ k → k ≤ j → places_in j n ≡ k + 1
exact zero j n l h m = last j n (omega arith)
exact (suc k) zero n l h m = absurd (omega arith)
exact (suc k) (suc j) n l h m =
    let p : 10 ^ suc k ≡ 10 ^ k * 10 = pow-suc 10 k in
    let low : 10 ^ k ≤ n / 10 = omega arith in
    let high : n / 10 < 10 * 10 ^ k = omega arith in
    let z : 0 ≤ k = omega arith in
    let one : 10 ^ 0 ≤ 10 ^ k = pow-le-pow_right (lit< tt) z in
    let i = exact k j (n / 10) low high (omega arith) in
    omega (arith, turn j n (omega arith))

pub by_power : (k n : ℕ) → 10 ^ k ≤ n → n < 10 * 10 ^ k → k < 20 → k + 1 ≡ places n
unfolding places
by_power k n l h m = let e = exact k 19 n l h (omega arith) in omega arith

pub none : (n : ℕ) → n ≡ 0 → 1 ≡ places n
unfolding places
none n h = let e = last 19 n (omega arith) in omega arith
