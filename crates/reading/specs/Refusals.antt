-- The refusals of reading a STATUS as rows, in 01's order (01, Calls and their answers).
-- Assumes nothing.
use Rattle.std.specs.Prelude.{ℕ, not, List, [], ◌∷◌, length, leb}
use Rattle.base.specs.Tables.{Row}
use Rattle.reading.specs.Reading.{count_of, is_status}

-- reading a STATUS: 10, 9
abbrev pub read_refusals : List ℕ → List ℕ → List Row
read_refusals x t = (10, not (is_status x)) ∷ (9, not (leb (count_of x) (length t))) ∷ []
