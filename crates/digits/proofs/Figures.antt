-- A number written with leading zeros: how many digits, that they are digits, and that reading them gives the number back.
-- Assumes nothing.
use mathlib.Core.Path.{◌≡◌, refl, ◌∙◌}
use mathlib.Core.Bool.{true}
use mathlib.Core.List.{List, [], ◌∷◌, ◌++◌}
use Prim.Native.Nat.{ℕ, zero, suc, ◌+◌, ◌-◌, ◌*◌, ◌/◌, ◌%◌, ◌^◌, ◌≤◌, ◌<◌}
use native.Mathlib.Nat.{pow-suc, div-lt_iff_lt-mul}
use native.Mathlib.Omega.{arith}
use lib.Dec.{lit<}
use lib.ListN.{length, length-append}
use Rattle.base.proofs.Every.{both}
use Rattle.digits.specs.Digits.{digit, is_digits, value, number_of, figures}
use Rattle.digits.proofs.Digit.{a_digit}
use Rattle.digits.proofs.Value.{is_value}

pub figures_length : (w n : ℕ) → length (figures w n) ≡ w
unfolding figures
figures_length zero n = refl
figures_length (suc w) n =
    let e = figures_length w (n / 10) in
    simp (length-append, e) (omega arith)

digits_snoc : (s : List ℕ) (b : ℕ) → is_digits s ≡ true → digit b ≡ true → is_digits (s ++ (b ∷ [])) ≡ true
digits_snoc [] b e f = simp f
digits_snoc (x ∷ xs) b e f =
    let h = both (digit x) (is_digits xs) e in
    simp h.0 (digits_snoc xs b h.1 f)

pub figures_digits : (w n : ℕ) → is_digits (figures w n) ≡ true
unfolding figures
figures_digits zero n = refl
figures_digits (suc w) n = digits_snoc (figures w (n / 10)) (48 + n % 10) (figures_digits w (n / 10)) (a_digit (n % 10) (omega arith))

snoc : (d p v x : ℕ) → d * (p * 10) + (v * 10 + x) ≡ (d * p + v) * 10 + x
snoc d p v x = omega arith

value_snoc : (s : List ℕ) (b : ℕ) → value (s ++ (b ∷ [])) ≡ value s * 10 + (b - 48)
value_snoc [] b = omega arith
value_snoc (x ∷ xs) b =
    let l : length (xs ++ (b ∷ [])) ≡ suc (length xs) = simp length-append (omega arith) in
    simp (l, pow-suc, value_snoc xs b) (snoc (x - 48) (10 ^ length xs) (value xs) (b - 48))

figures_value : (w n : ℕ) → n < 10 ^ w → value (figures w n) ≡ n
unfolding figures
figures_value zero n h = omega arith
figures_value (suc w) n h =
    let k : n / 10 < 10 ^ w = (div-lt_iff_lt-mul (lit< tt)).1 (rw pow-suc at h) in
    let e = figures_value w (n / 10) k in
    value_snoc (figures w (n / 10)) (48 + n % 10) ∙ omega arith

-- reading what was written
pub read_back : (w n : ℕ) → w ≤ 16 → n < 10 ^ w → number_of (figures w n) ≡ n
read_back w n h k =
    let l = figures_length w n in
    is_value (figures w n) (omega arith) (figures_digits w n) ∙ figures_value w n k
