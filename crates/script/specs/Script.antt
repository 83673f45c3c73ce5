-- What is read from a script: where a part of it ends, the number in a field of a line, and the numbers of a list.
-- Assumes nothing.
use Rattle.std.specs.Prelude.{ℕ, zero, suc, ◌+◌, ◌-◌, ◌*◌, ◌/◌, ◌%◌, ◌≤◌, min, ◌≡◌, cond, ◌&&◌, List, [], ◌∷◌, ◌++◌, length, take, drop, eqb, leb}
use Rattle.base.specs.Bytes.{over}
use Rattle.digits.specs.Digits.{number_of}

-- what is left of a list from the first b on, nothing where there is none
abbrev pub onward : ℕ → List ℕ → List ℕ
onward b [] = []
onward b (x ∷ xs) = cond (eqb x b) (x ∷ xs) (onward b xs)

-- r is the place of the first b of the list from a place on, and its length where there is none; so it is in the list or at its end, and
-- not before a place that is
pub record Ends (s : List ℕ) (from b r : ℕ) : Type 0 where
  pub place : r ≡ length s - length (onward b (drop from s))
  pub within : r ≤ length s
  pub after : from ≤ r + (from - length s)

-- the number that the bytes from a place to an end stand for, modulo 2^32; 0 where the list doesn't have them
unfoldable pub field_of : List ℕ → ℕ → ℕ → ℕ
field_of r from end = cond (leb from end && leb end (length r)) (number_of (take (end - from) (drop from r)) % 4294967296) 0

-- the first n numbers of ten digits each
abbrev pub numbers_of : ℕ → List ℕ → List ℕ
numbers_of zero s = []
numbers_of (suc n) s = numbers_of n s ++ (field_of s (n * 10) (n * 10 + 10) ∷ [])

-- as many numbers as the text and the list have stand over the front of the list
pub record FilledAs (list s : List ℕ) (r : ℕ) (list' : List ℕ) : Type 0 where
  pub result : r ≡ min (length s / 10) (length list)
  pub numbers : list' ≡ over list 0 (numbers_of r s)
