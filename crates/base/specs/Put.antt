-- Texts put into an output that was lent: one at its front with its length told, or one after the other.
-- Assumes nothing.
use Rattle.std.specs.Prelude.{ℕ, ◌+◌, ◌≡◌, cond, List, length, leb}
use Rattle.base.specs.Bytes.{over}

-- a text at the front of the output, and its length; where the output is shorter, 0 and nothing written
pub record Written (text out : List ℕ) (r : ℕ) (out' : List ℕ) : Type 0 where
  pub count : r ≡ cond (leb (length text) (length out)) (length text) 0
  pub bytes : out' ≡ cond (leb (length text) (length out)) (over out 0 text) out

-- d is put at a place of the output, and the next place is told
pub record Put (out : List ℕ) (at : ℕ) (d : List ℕ) (r : ℕ) (out' : List ℕ) : Type 0 where
  pub next : r ≡ at + length d
  pub bytes : out' ≡ over out at d
