-- The refusals of the calls over a session and over a whole message as rows, in their order (01, Calls and their answers; 02 #105).
-- Assumes nothing.
use Rattle.std.specs.Prelude.{ℕ, not, List, [], ◌∷◌, ◌++◌, length, leb, eqb}
use Rattle.base.specs.Tables.{Row}
use Rattle.calendar.specs.Calendar.{is_date}
use Rattle.lent.specs.Lent.{Lists, Lent}
use Rattle.lent.specs.Refusals.{list_refusals}
use Rattle.frame.specs.Verdict.{overflows}
use Rattle.kinds.specs.Codes.{rules}
use Rattle.judge.specs.declared.Session.{Session}
use Rattle.judge.specs.Session.{most, longest, in_range}

-- opening: 1, 4
abbrev pub open_refusals : ℕ → List ℕ → List Row
open_refusals e t = (1, not (is_date e)) ∷ (4, not (leb (length t) most)) ∷ []

-- a piece: 5, 2, 3, 15, 4
abbrev pub piece_refusals : Session → Lists → List ℕ → List Row
piece_refusals s l t = (5, not (in_range s)) ∷ list_refusals l ++ ((4, not (eqb (length t) s.room)) ∷ [])

-- a piece, with memory lent for the bytes held: 5 where that has another size, and then as above
abbrev pub parts_refusals : Session → Lists → List ℕ → List Row
parts_refusals s l t = (5, not (eqb (length s.held) longest)) ∷ piece_refusals s l t

-- closing: 5, 6; phase 4 is that of an overflow
abbrev pub close_refusals : Session → List Row
close_refusals s = (5, not (in_range s)) ∷ (6, eqb s.tally.phase 4) ∷ []

-- a whole message: 1, 4, 2, 3, 15, 6
abbrev pub whole_refusals : Lent → List ℕ → List ℕ → List Row
whole_refusals l t m = open_refusals l.day t ++ list_refusals l.lists ++ ((6, overflows (rules l) t m) ∷ [])
