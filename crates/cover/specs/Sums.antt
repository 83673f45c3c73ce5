-- Sums as the code counts them: up to a number that no two fields of a foot make together.
-- Assumes nothing.
use Rattle.std.specs.Prelude.{ℕ, cond, List, leb}
use Rattle.frame.specs.declared.Totals.{Totals}
use Rattle.cover.specs.Foot.{is_type, amount_of, count_of, sum_of}

abbrev pub limit : ℕ
limit = 20000000000000000

-- n, or the limit where n is above it
unfoldable pub capped : ℕ → ℕ
capped n = cond (leb n limit) n limit

-- what an item adds to the totals of a type
unfoldable pub totals_in : ℕ → List ℕ → Totals
totals_in t it = record { count = cond (is_type t it) 1 0; sum = cond (is_type t it) (amount_of it) 0 }

-- the totals of a type, the sum up to the limit
unfoldable pub totals_to : ℕ → List (List ℕ) → Totals
totals_to t its = record { count = count_of t its; sum = capped (sum_of t its) }
