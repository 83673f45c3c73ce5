-- The kind of fault that is found in a number, as 01's number of it: the first whose condition holds.
-- Assumes nothing.
use mathlib.Core.Path.{◌≡◌, refl}
use mathlib.Core.Bool.{Bool, true, false, not}
use mathlib.Core.List.{List, [], ◌∷◌}
use Prim.Native.Nat.{ℕ}
use lib.Dec.{eqb}
use Rattle.base.specs.Tables.{Row, first_given}
use Rattle.base.proofs.Tables.{ByRows}
use Rattle.digits.specs.Digits.{number_of}
use Rattle.findings.specs.declared.Kind.{Kind}
use Rattle.findings.specs.declared.Kind.TheVariants.{NotDigits, BlankOrZero, OutOfOrder}
use Rattle.findings.specs.Findings.{Finding, Right, unless, kind_number, finding_number}
use Rattle.fields.specs.Fields.{digits_of, place_found, amount_found}

-- nothing is wrong
pub right : ByRows finding_number Right []
right = record { is = refl }

module _ {f : Finding} {rs : List Row} where
  -- what a field must be: the kind where it isn't, and then what is found further on
  pub must : (b : Bool) (k : Kind) → ByRows finding_number f rs → ByRows finding_number (unless b k f) ((kind_number k, not b) ∷ rs)
  must true k w = record { is = w.is }
  must false k w = record { is = refl }

  -- what it must not be, likewise
  pub must_not : (b : Bool) (k : Kind) → ByRows finding_number f rs → ByRows finding_number (unless (not b) k f) ((kind_number k, b) ∷ rs)
  must_not true k w = record { is = refl }
  must_not false k w = record { is = w.is }

-- item number: not digits (4), out of order (11)
pub place : (k : ℕ) (s : List ℕ)
    → finding_number (place_found k s) ≡ first_given ((4, not (digits_of 6 s)) ∷ (11, not (eqb (number_of s) k)) ∷ [])
unfolding place_found
place k s = (must (digits_of 6 s) NotDigits (must (eqb (number_of s) k) OutOfOrder right)).is

-- amount: not digits (4), zero (10)
pub amount : (s : List ℕ) → finding_number (amount_found s) ≡ first_given ((4, not (digits_of 10 s)) ∷ (10, eqb (number_of s) 0) ∷ [])
unfolding amount_found
amount s = (must (digits_of 10 s) NotDigits (must_not (eqb (number_of s) 0) BlankOrZero right)).is
