-- The value of digits: its size, and reading it from the left.
-- Assumes nothing.
use mathlib.Core.Path.{◌≡◌, refl, sym, ◌∙◌}
use mathlib.Core.Bool.{Bool, true, false, cond, ◌&&◌}
use mathlib.Core.List.{List, [], ◌∷◌}
use Prim.Native.Nat.{ℕ, suc, ◌+◌, ◌-◌, ◌*◌, ◌^◌, ◌≤◌, ◌<◌}
use native.Mathlib.Nat.{pow-suc, pow-le-pow_right, mul-le-mul_right, one-le-pow}
use native.Mathlib.Numerals.{add-one}
use native.Mathlib.Omega.{arith}
use lib.Dec.{leb, lit<}
use lib.ListN.{length, get_or, drop}
use borrow.Author.Tests.{le-leb, lt-leb}
use Rattle.base.proofs.Walk.{step, done}
use Rattle.base.proofs.Every.{both}
use Rattle.digits.specs.Digits.{digit, is_digits, value, number_of}
use Rattle.digits.proofs.Digit.{is_digit}

horner : (n d p v : ℕ) → n * (p * 10) + (d * p + v) ≡ (n * 10 + d) * p + v
horner n d p v = omega arith

-- digits stand for less than ten to their number
pub value_lt : (s : List ℕ) → is_digits s ≡ true → value s < 10 ^ length s
value_lt [] e = lit< tt
value_lt (b ∷ bs) e =
    let h = both (digit b) (is_digits bs) e in
    let g = is_digit b h.0 in
    let k : b - 48 ≤ 9 = omega arith in
    let p : (b - 48) * 10 ^ length bs ≤ 9 * 10 ^ length bs = mul-le-mul_right (10 ^ length bs) k in
    let v : value bs < 10 ^ length bs = value_lt bs h.1 in
    rw pow-suc (omega arith)

-- so is the number of any field
pub number_lt : (s : List ℕ) → number_of s < 10 ^ length s
unfolding number_of
number_lt s = go (leb (length s) 16) (is_digits s) refl
  where
    go : (p q : Bool) → is_digits s ≡ q → cond (p && q) (value s) 0 < 10 ^ length s
    go true true e = value_lt s e
    go true false e = omega (arith, one-le-pow (length s) 10 (lit< tt))
    go false q e = omega (arith, one-le-pow (length s) 10 (lit< tt))

-- what is read so far, with the digits that are left
pub record Read (s : List ℕ) (n i : ℕ) : Type 0 where
  pub short : length s ≤ 16
  pub small : n < 10 ^ i
  pub total : n * 10 ^ length (drop i s) + value (drop i s) ≡ value s
  pub right : is_digits (drop i s) ≡ is_digits s

pub long : (s : List ℕ) → 16 < length s → 0 ≡ number_of s
unfolding number_of
long s h = simp (lt-leb (length s) 16 h)

-- number_of where the field is short enough
pub is_value : (s : List ℕ) → length s ≤ 16 → is_digits s ≡ true → number_of s ≡ value s
unfolding number_of
is_value s h e = simp (le-leb (length s) 16 h, e)

pub no_value : (s : List ℕ) → length s ≤ 16 → is_digits s ≡ false → number_of s ≡ 0
unfolding number_of
no_value s h e = simp (le-leb (length s) 16 h, e)

module _ {s : List ℕ} {n i : ℕ} (w : Read s n i) where
  pub ends : length s ≤ i → n ≡ number_of s
  ends h =
      let v : n * 10 ^ 0 + 0 ≡ value s = simp (done s i h) at w.total in
      let d : true ≡ is_digits s = simp (done s i h) at w.right in
      omega (arith, is_value s w.short (sym d))

  module _ (h : i < length s) where
    pub no : digit (get_or s i 0) ≡ false → 0 ≡ number_of s
    no e =
        let d : false ≡ is_digits s = simp (step s i h, e) at w.right in
        sym (no_value s w.short (sym d))

    pub room : n < 10 ^ 15
    room =
        let j : i ≤ 15 = omega arith in
        let p : 10 ^ i ≤ 10 ^ 15 = pow-le-pow_right (lit< tt) j in
        omega arith

    pub on : digit (get_or s i 0) ≡ true → Read s (n * 10 + (get_or s i 0 - 48)) (i + 1)
    on e =
        let g = is_digit (get_or s i 0) e in
        let p : 10 ^ (i + 1) ≡ 10 ^ i * 10 = rw (add-one, pow-suc) in
        let t = drop (i + 1) s in
        let q : n * 10 ^ suc (length t) + ((get_or s i 0 - 48) * 10 ^ length t + value t) ≡ value s = simp (step s i h) at w.total in
        record {
          short = w.short;
          small = omega arith;
          total = sym (horner n (get_or s i 0 - 48) (10 ^ length t) (value t)) ∙ rw pow-suc at q;
          right = simp (step s i h, e) at w.right;
        }
