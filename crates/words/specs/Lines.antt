-- A table of words: bytes in lines, each ended by 0Ah.
-- Assumes nothing.
use Rattle.std.specs.Prelude.{ℕ, zero, suc, ◌+◌, cond, List, [], ◌∷◌, take, eqb}

-- how long the first line is, without its end
abbrev pub line_length : List ℕ → ℕ
line_length [] = 0
line_length (b ∷ bs) = cond (eqb b 0x0a) 0 (line_length bs + 1)

-- what follows the first line and its end
abbrev pub after_line : List ℕ → List ℕ
after_line [] = []
after_line (b ∷ bs) = cond (eqb b 0x0a) bs (after_line bs)

-- what follows the first n lines
abbrev pub after_lines : List ℕ → ℕ → List ℕ
after_lines bs zero = bs
after_lines bs (suc n) = after_lines (after_line bs) n

-- the n-th line, from 0, without its end; none where there are fewer
unfoldable pub line_at : List ℕ → ℕ → List ℕ
line_at bs n = take (line_length (after_lines bs n)) (after_lines bs n)
