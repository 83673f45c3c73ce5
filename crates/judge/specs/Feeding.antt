-- Pieces given one after the other, and a whole message judged by opening, one piece and closing.
-- Assumes nothing.
use Rattle.std.specs.Prelude.{ℕ, List, [], ◌∷◌, Result, Err}
use Rattle.lent.specs.Lent.{Lists, Lent, by}
use Rattle.judge.specs.declared.Session.{Session}
use Rattle.lent.specs.declared.Refusal.{Refusal}
use Rattle.frame.specs.declared.Closing.{Closing}
use Rattle.judge.specs.Session.{opened, taken, table_taken, closed_of}

-- each piece is given the session that the last one yielded and the table that it left
unfoldable pub fed : Session → List ℕ → Lists → List (List ℕ) → Session × List ℕ
fed s t l [] = (s, t)
fed s t l (p ∷ ps) = fed (taken s p l t).next (table_taken s p l t) l ps

-- opening, one piece and closing; the first refusal is the answer
unfoldable pub at_once : Lent → List ℕ → List ℕ → Result Closing Refusal
at_once l t m =
    by (opened l.day t).outcome
    (by (taken (opened l.day t).next m l.lists t).outcome (closed_of (taken (opened l.day t).next m l.lists t).next).closing Err)
    Err

-- and the table then
unfoldable pub table_at_once : Lent → List ℕ → List ℕ → List ℕ
table_at_once l t m = by (opened l.day t).outcome (table_taken (opened l.day t).next m l.lists t) (λ r. t)
