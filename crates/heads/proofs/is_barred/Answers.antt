-- `heads::is_barred` meets its contract: bytes that end before position 42 have no bank of eight digits.
-- Assumes nothing.
use mathlib.Core.Path.{◌≡◌, sym, ap, ◌∙◌}
use mathlib.Core.Bool.{Bool, true, false}
use mathlib.Core.List.{List}
use Prim.Native.Nat.{ℕ, ◌<◌, ◌≤◌}
use native.Mathlib.Omega.{arith}
use lib.ListN.{length, take, drop, length-drop, length-take}
use lib.Seq.{length-take-le}
use Rattle.base.specs.Bytes.{field}
use Rattle.digits.specs.Digits.{is_digits, number_of}
use Rattle.digits.proofs.Value.{number_lt}
use Rattle.lists.specs.Banks.{found_in}
use Rattle.fields.proofs.Numbers.{another_length, of_digits}
use Rattle.kinds.specs.Kinds.{is_barred_bank}
use Rattle.heads.proofs.is_barred.Goals as goal

-- three digits fit the list's numbers
small : (s : List ℕ) → 3 ≤ length s → number_of (take 3 s) < 1000
small s h = rw (length-take-le 3 s h) at (number_lt (take 3 s))

module _ (is_barred : ℕ → Bool) (r : List ℕ) where
  short : length r < 42 → false ≡ is_barred_bank is_barred r
  short h = simp (another_length 8 (take 8 (drop 34 r)) (λ e. omega (arith, length-drop 34 r, length-take 8 (drop 34 r))))

  module _ (h : 42 ≤ length r) where
    eight : length (take 8 (drop 34 r)) ≡ 8
    eight = length-take-le 8 (drop 34 r) (omega (arith, length-drop 34 r))

    no_digits : is_digits (field 35 42 r) ≡ false → false ≡ is_barred_bank is_barred r
    no_digits e = simp (of_digits 8 (take 8 (drop 34 r)) eight e)

    asked : is_digits (field 35 42 r) ≡ true → is_barred (number_of (field 35 37 r)) ≡ is_barred_bank is_barred r
    asked e = simp (of_digits 8 (take 8 (drop 34 r)) eight e)

pub returns-then-r-lt42 : goal.returns-then-r-lt42
returns-then-r-lt42 c = short (found_in c.args.barred.now) c.args.r.now c.if-r-lt42.true

pub returns-then-not-is_digits : goal.returns-then-not-is_digits
returns-then-not-is_digits c =
    no_digits (found_in c.args.barred.now) c.args.r.now c.if-r-lt42.false (sym c.is_digits.ensures ∙ c.if-not-is_digits.true)

pub overflow_cast-number : goal.overflow_cast-number
overflow_cast-number c =
    let r = c.args.r.now in
    omega (arith, small (drop 34 r) (omega (arith, length-drop 34 r, c.if-r-lt42.false)), c.number.ensures)

pub returns : goal.returns
returns c =
    let is_barred = found_in c.args.barred.now in
    c.is_listed.ensures.halves ∙ ap is_barred c.number.ensures
    ∙ asked is_barred c.args.r.now c.if-r-lt42.false (sym c.is_digits.ensures ∙ c.if-not-is_digits.false)
