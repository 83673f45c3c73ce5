-- `trial::words::Case::fed` is safe and ends: each turn goes past a length or a byte.
-- Assumes nothing.
use Rattle.std.proofs.Common.{ℕ, ◌+◌, ◌-◌, ◌<◌, ◌≤◌, arith}
use Rattle.trial.proofs.words.Case.fed.Goals as goal

-- what is left of a smaller part is smaller
smaller : (a b d m : ℕ) → d ≤ b → a + b < m → a + d < m
smaller a b d m h k = omega arith

-- of the lengths one less is left, or none
passed : (count i j : ℕ) → j ≤ count → i + 1 ≤ j + (i + 1 - count) → count - j ≤ count - (i + 1)
passed count i j h k = omega arith

turn : (len count at i end j : ℕ) → j ≤ count → i + 1 ≤ j + (i + 1 - count) → (len - end) + (count - (i + 1)) < (len - at) + (count - i)
    → (len - end) + (count - j) < (len - at) + (count - i)
turn len count at i end j h k f = smaller (len - end) (count - (i + 1)) (count - j) ((len - at) + (count - i)) (passed count i j h k) f

pub loop-at-smaller : goal.loop-at-smaller
loop-at-smaller c =
    let l = c.loop-at in
    let e = c.piece_end-end in
    turn _ _ l.at l.i e.result c.ahead-i.result c.ahead-i.ensures.1 c.ahead-i.ensures.2 e.ensures.2
