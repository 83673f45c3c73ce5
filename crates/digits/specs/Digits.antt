-- Decimal fields: digits, the number that they stand for, and a number written with leading zeros.
-- Assumes nothing.
use Rattle.std.specs.Prelude.{ℕ, zero, suc, ◌+◌, ◌-◌, ◌*◌, ◌/◌, ◌%◌, ◌^◌, Bool, cond, ◌&&◌, List, [], ◌∷◌, ◌++◌, length, leb, ltb}
use Rattle.base.specs.Bytes.{every, over}

-- a byte is one of '0' to '9', 30h to 39h
abbrev pub digit : ℕ → Bool
digit b = leb 48 b && leb b 57

-- each byte is a digit
abbrev pub is_digits : List ℕ → Bool
is_digits = every digit

-- the value of digits: each counts ten to the number of places after it
abbrev pub value : List ℕ → ℕ
value [] = 0
value (b ∷ bs) = (b - 48) * 10 ^ length bs + value bs

-- the number that up to sixteen digits stand for; 0 for a longer field or one with another byte
unfoldable pub number_of : List ℕ → ℕ
number_of s = cond (leb (length s) 16 && is_digits s) (value s) 0

-- the last w digits of n, with leading zeros
unfoldable pub figures : ℕ → ℕ → List ℕ
figures zero n = []
figures (suc w) n = figures w (n / 10) ++ ((48 + n % 10) ∷ [])

-- n has at most w digits, and the list at least w places
abbrev pub has_room : List ℕ → ℕ → ℕ → Bool
has_room xs w n = leb w (length xs) && ltb n (10 ^ w)

-- the list with the w digits of n at its front, where there is room; else the list as it was
unfoldable pub with_number : List ℕ → ℕ → ℕ → List ℕ
with_number xs w n = cond (has_room xs w n) (over xs 0 (figures w n)) xs

-- n has at most w digits, and the list w places from a place on
abbrev pub has_room_at : List ℕ → ℕ → ℕ → ℕ → Bool
has_room_at xs at w n = leb (at + w) (length xs) && ltb n (10 ^ w)

-- the list with the w digits of n over it from a place on, where there is room; else the list as it was
unfoldable pub with_number_at : List ℕ → ℕ → ℕ → ℕ → List ℕ
with_number_at xs at w n = cond (has_room_at xs at w n) (over xs at (figures w n)) xs

-- the place after the digits, where there is room; else the place itself
unfoldable pub after_number : List ℕ → ℕ → ℕ → ℕ → ℕ
after_number xs at w n = cond (has_room_at xs at w n) (at + w) at
