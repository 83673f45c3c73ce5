-- The refusals of the slip's files as rows, in 01's order (01, Examples, the slip program).
-- Assumes nothing.
use Rattle.std.specs.Prelude.{ℕ, not, List, [], ◌∷◌, is_none}
use Rattle.base.specs.Tables.{Row}
use Rattle.files.specs.Files.{day_of, is_banks, is_known_file}

-- `day`, `banks` and `known`: 1, 2, 3
abbrev pub file_refusals : List ℕ → List ℕ → List ℕ → ℕ → List Row
file_refusals day banks known room = (1, is_none (day_of day)) ∷ (2, not (is_banks banks room)) ∷ (3, not (is_known_file known)) ∷ []
