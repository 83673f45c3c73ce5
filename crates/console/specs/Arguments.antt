-- What an argument of digits says.
-- Assumes nothing.
use Rattle.std.specs.Prelude.{ℕ, Bool, cond, ◌&&◌, List, length, leb, Option, Some, None}
use Rattle.digits.specs.Digits.{is_digits, number_of}

-- so many bytes at least and at most, and no more than nine
abbrev pub is_long : ℕ → ℕ → List ℕ → Bool
is_long least most s = leb least (length s) && (leb (length s) most && leb (length s) 9)

-- the number of a word of digits that is so long
unfoldable pub number_of_word : ℕ → ℕ → List ℕ → Option ℕ
number_of_word least most s = cond (is_long least most s && is_digits s) (Some (number_of s)) None
