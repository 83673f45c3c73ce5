-- The number of the outcome of reading a STATUS is that of the first row whose condition holds.
-- Assumes nothing.
use mathlib.Core.Path.{◌≡◌, refl}
use mathlib.Core.List.{List, []}
use Prim.Native.Nat.{ℕ}
use lib.ListN.{length}
use lib.Dec.{leb}
use Rattle.std.specs.Prelude.{Ok, Err}
use Rattle.base.specs.Tables.{first_given}
use Rattle.base.proofs.Tables.{ByRows, asked}
use Rattle.lent.specs.Lent.{outcome_number}
use Rattle.lent.specs.declared.Refusal.TheVariants.{Room, Malformed}
use Rattle.reading.specs.Reading.{count_of, is_status, status_in, read_of}
use Rattle.reading.specs.Refusals.{read_refusals}

-- a STATUS is read
said : (x : List ℕ) → ByRows outcome_number (Ok (status_in x)) []
said x = record { is = refl }

-- reading a STATUS: 10, 9
pub status : (x t : List ℕ) → outcome_number (read_of x t) ≡ first_given (read_refusals x t)
unfolding read_of
status x t = (asked (is_status x) (Err Malformed) (asked (leb (count_of x) (length t)) (Err Room) (said x))).is
