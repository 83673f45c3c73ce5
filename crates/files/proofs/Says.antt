-- What the files say where they pass: the day is a date, the banks are a bank list with a place for each, at the front of the list that was lent.
-- Assumes nothing.
use mathlib.Core.Path.{◌≡◌, refl, ap}
use mathlib.Core.Bool.{Bool, true, false, cond, ◌&&◌}
use mathlib.Core.List.{List}
use Prim.Native.Nat.{ℕ, ◌+◌, ◌/◌, ◌%◌, ◌≤◌}
use native.Mathlib.Omega.{arith}
use lib.Dec.{leb, eqb}
use lib.ListN.{length, take, drop}
use lib.Seq.{take_at}
use borrow.Author.Tests.{leb-true}
use Rattle.std.proofs.Common.{Option, Some, None, Ok, Err}
use Rattle.base.specs.Bytes.{over}
use Rattle.base.proofs.Every.{both}
use Rattle.digits.specs.Digits.{is_digits, number_of}
use Rattle.calendar.specs.Calendar.{is_date}
use Rattle.calendar.specs.DateField.{date_field}
use Rattle.calendar.specs.declared.DateFault.TheVariants.{NotDigits, NoDate}
use Rattle.lists.specs.Banks.{is_bank_list}
use Rattle.files.specs.Files.{longest, date_in, day_of, numbers, ordered, are_lines, is_banks, given, given_at}
use Rattle.files.specs.declared.Given.{Given}
use Rattle.files.proofs.Lines.{count}

-- what is read as a date is one
picked : (p q : Bool) (n e : ℕ) → is_date n ≡ q → date_in (cond p (cond q (Ok n) (Err NoDate)) (Err NotDigits)) ≡ Some e → is_date e ≡ true
picked true true n e d f =
    let x : n ≡ e = cc in
    rw (← x) d
picked true false n e d f = absurd (cc)
picked false q n e d f = absurd (cc)

-- the day is a date
pub day_date : (s : List ℕ) (e : ℕ) → day_of s ≡ Some e → is_date e ≡ true
unfolding day_of date_field
day_date s e f = picked (eqb (length s) 8 && is_digits s) (is_date (number_of s)) (number_of s) e refl f

-- what the tests say where the files pass
pub passed : (d : Option ℕ) (v w : Bool) (n : ℕ) (g : Given) → given_at d v w n ≡ Ok g
    → (d ≡ Some g.day) × (v ≡ true) × (w ≡ true) × (n ≡ g.banks)
passed None v w n g q = absurd (cc)
passed (Some day) false w n g q = absurd (cc)
passed (Some day) true false n g q = absurd (cc)
passed (Some day) true true n g q =
    let e : given day n ≡ g = cc in
    (ap (λ (x : Given). Some x.day) e, refl, refl, ap (λ (x : Given). x.banks) e)

module _ (s : List ℕ) (room : ℕ) (e : is_banks s room ≡ true) where
  tests : (length s / 9 ≤ room) × (ordered s ≡ true)
  unfolding is_banks
  tests =
      let h = (both (leb (length s) longest) _ e).1 in
      let i = (both (eqb (length s % 9) 0) _ h).1 in
      let j = both (leb (length s / 9) room) (ordered s) i in
      (leb-true (length s / 9) room j.0, j.1)

  -- each bank has a place
  pub banks_fit : length s / 9 ≤ room
  banks_fit = tests.0

  -- the banks are a bank list
  pub banks_list : is_bank_list (numbers s) ≡ true
  banks_list = (both (are_lines (length s / 9) s) (is_bank_list (numbers s)) tests.1).1

-- a list of 2,777 has a place for each bank of any file
pub always_fit : (s : List ℕ) → length s ≤ longest → length s / 9 ≤ 2777
always_fit s h = omega arith

-- the banks are the front of the list that was lent
pub banks_front : (s list : List ℕ) → take (length s / 9) (over list 0 (numbers s)) ≡ numbers s
unfolding over
banks_front s list = take_at (numbers s) (drop (0 + length (numbers s)) list) (length s / 9) (count (length s / 9) s)
