-- What stands beside the number of a reading: what the STATUS says, and where it was refused zeros and spaces.
-- Assumes nothing.
use mathlib.Core.Path.{◌≡◌, refl}
use mathlib.Core.Bool.{Bool, true, false, cond}
use mathlib.Core.List.{List}
use Prim.Native.Nat.{ℕ}
use lib.ListN.{length}
use lib.Dec.{leb}
use Rattle.std.proofs.Common.{Ok, Err}
use Rattle.lent.specs.declared.Refusal.TheVariants.{Room, Malformed}
use Rattle.reading.specs.Reading.{count_of, is_status, status_in, no_status, or_no_status, read_of}

pub read_beside : (x t : List ℕ) → or_no_status (read_of x t) ≡ cond (is_status x) (cond (leb (count_of x) (length t)) (status_in x) no_status) no_status
unfolding read_of
read_beside x t = go (is_status x) (leb (count_of x) (length t))
  where
    go : (b c : Bool)
        → or_no_status (cond b (cond c (Ok (status_in x)) (Err Room)) (Err Malformed)) ≡ cond b (cond c (status_in x) no_status) no_status
    go true true = refl
    go true false = refl
    go false c = refl
