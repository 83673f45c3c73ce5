-- Check digits: a weighted sum of the digits that is a multiple of ten.
-- Assumes nothing.
use Rattle.std.specs.Prelude.{ℕ, ◌+◌, ◌-◌, ◌*◌, ◌%◌, Bool, ◌&&◌, List, [], ◌∷◌, length, get_or, eqb}
use Rattle.digits.specs.Digits.{is_digits}

-- the weight at place i, counted from 0, of weights repeated from the left
abbrev pub repeated : List ℕ → ℕ → ℕ
repeated ws i = get_or ws (i % length ws) 0

-- the weighted sum of digits of which the first stands at place i
abbrev pub weighed : (ℕ → ℕ) → ℕ → List ℕ → ℕ
weighed w i [] = 0
weighed w i (b ∷ bs) = w i * (b - 48) + weighed w (i + 1) bs

-- all are digits, and their weighted sum is a multiple of ten
abbrev pub balanced : (ℕ → ℕ) → List ℕ → Bool
balanced w s = is_digits s && eqb (weighed w 0 s % 10) 0

-- annex 6: weights 9, 7, 3, 1
abbrev pub cdv : ℕ → ℕ
cdv = repeated (9 ∷ 7 ∷ 3 ∷ 1 ∷ [])

-- the digits satisfy the check digit of annex 6
unfoldable pub satisfies : List ℕ → Bool
satisfies = balanced cdv

-- EAN-13: weights 1 and 3
abbrev pub gs1 : ℕ → ℕ
gs1 = repeated (1 ∷ 3 ∷ [])

-- thirteen digits that are an EAN-13
unfoldable pub is_ean13 : List ℕ → Bool
is_ean13 s = eqb (length s) 13 && balanced gs1 s
