-- The number of what the files give is that of the first row whose condition holds.
-- Assumes nothing.
use mathlib.Core.Path.{◌≡◌, refl}
use mathlib.Core.Bool.{Bool, true, false, not}
use mathlib.Core.List.{List, [], ◌∷◌}
use Prim.Native.Nat.{ℕ, ◌/◌}
use lib.ListN.{length}
use Rattle.std.proofs.Common.{Option, Some, None}
use Rattle.std.specs.Prelude.{is_none}
use Rattle.base.specs.Tables.{first_given}
use Rattle.files.specs.Files.{day_of, is_banks, is_known_file, given_number, given_at, given_by}
use Rattle.files.specs.Refusals.{file_refusals}

-- by the tests on them
by_tests : (d : Option ℕ) (v w : Bool) (n : ℕ) → given_number (given_at d v w n) ≡ first_given ((1, is_none d) ∷ (2, not v) ∷ (3, not w) ∷ [])
by_tests None v w n = refl
by_tests (Some day) false w n = refl
by_tests (Some day) true false n = refl
by_tests (Some day) true true n = refl

-- `day`, `banks` and `known`: 1, 2, 3
pub files : (day banks known : List ℕ) (room : ℕ) → given_number (given_by day banks known room) ≡ first_given (file_refusals day banks known room)
unfolding given_by
files day banks known room = by_tests (day_of day) (is_banks banks room) (is_known_file known) (length banks / 9)
