-- The rules of a message of either kind are sound for the frame's theorems and the session's ranges. An empty message has code 26.
-- Assumes nothing.
use mathlib.Core.Path.{◌≡◌}
use mathlib.Core.Bool.{Bool, true, false, cond, not, ◌&&◌}
use mathlib.Core.List.{List, []}
use Prim.Native.Nat.{ℕ, ◌^◌, ◌<◌, ◌≤◌}
use native.Mathlib.Omega.{arith}
use Rattle.base.specs.Bytes.{ascii, field, same}
use Rattle.lists.specs.Banks.{found_in}
use Rattle.lent.specs.Lent.{Lent}
use Rattle.frame.specs.Verdict.{message_code}
use Rattle.frame.specs.Sound.{Sound, CanTell, most_code, most_amount, most_kind}
use Rattle.frame.proofs.Empty.{empty}
use Rattle.kinds.specs.Kinds.{is_beszed, is_barred_bank, kind_of, told_of}
use Rattle.kinds.specs.Codes.{rules}
use Rattle.kinds.proofs.Bounds.{head_small, small, foot_small}
use Rattle.kinds.proofs.Totals.{foot_says}

two_digits : {n : ℕ} → n < 100 → n ≤ most_code
two_digits h = omega arith

ten_digits : {n : ℕ} → n < 10 ^ 10 → n ≤ most_amount
ten_digits h = omega arith

-- either kind's number, and 0 under a bar
can_tell : (is_barred : ℕ → Bool) (r : List ℕ) → CanTell (told_of is_barred r)
unfolding told_of kind_of
can_tell is_barred r = go (same (field 3 8 r) (ascii "BESZED")) (is_barred_bank is_barred r)
  where
    go : (b c : Bool) → cond b 1 0 ≤ most_kind (not (is_beszed (cond b 1 0)) && c)
    go true c = omega arith
    go false true = omega arith
    go false false = omega arith

-- under a bar or not, a code has two digits
under_small : (barred : Bool) {n : ℕ} → n < 100 → cond barred 14 n ≤ most_code
under_small true h = omega arith
under_small false h = two_digits h

module _ (l : Lent) where
  abbrev is_listed : ℕ → Bool
  is_listed = found_in l.lists.banks

  pub sound : Sound (rules l)
  sound =
      record {
        told = can_tell (found_in l.lists.barred);
        head = λ r. two_digits (head_small l.day is_listed l.lists.known r);
        fault = λ told k r. two_digits (small told.kind l.day is_listed k r).fault;
        code = λ told k r. under_small told.barred (small told.kind l.day is_listed k r).code;
        amount = λ told k r. ten_digits (small told.kind l.day is_listed k r).amount;
        foot = λ count sum r. two_digits (foot_small count sum r);
        foot_says = λ count sum r e. let t = foot_says count sum r e in (t.0.1, t.1.1);
      }

  pub empty_message : message_code (rules l) [] ≡ 26
  empty_message = empty (rules l)
