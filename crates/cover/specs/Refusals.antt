-- The refusals of judging a FEDJEL as rows, in their order (02 #103).
-- Assumes nothing.
use Rattle.std.specs.Prelude.{ℕ, not, List, [], ◌∷◌, ◌++◌, length, leb}
use Rattle.base.specs.Tables.{Row}
use Rattle.calendar.specs.Calendar.{is_date}
use Rattle.requests.specs.Requests.{is_request_list}
use Rattle.answers.specs.Fedjel.{item_count, is_fedjel}

-- what is given and lent: 1, 11, 12
abbrev pub lent_rows : ℕ → List ℕ → List ℕ → List Row
lent_rows e l m = (1, not (is_date e)) ∷ (11, not (is_request_list l)) ∷ (12, not (is_fedjel m)) ∷ []

-- judging: 1, 11, 12, 9
abbrev pub judge_refusals : ℕ → List ℕ → List ℕ → List ℕ → List Row
judge_refusals e l m t = lent_rows e l m ++ ((9, not (leb (item_count m) (length t))) ∷ [])
