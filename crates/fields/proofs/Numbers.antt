-- Fields of n digits: what their length decides, and that a number above 0 is one of digits.
-- Assumes nothing.
use mathlib.Core.Path.{◌≡◌, refl, ◌∙◌}
use mathlib.Core.Bool.{Bool, true, false, cond, ◌&&◌}
use mathlib.Core.List.{List}
use Prim.Native.Nat.{ℕ, ◌<◌}
use native.Mathlib.Omega.{arith}
use lib.Dec.{leb}
use lib.ListN.{length}
use borrow.Author.Tests.{eq-eqb, ne_eqb}
use Rattle.digits.specs.Digits.{is_digits, value, number_of}
use Rattle.fields.specs.Fields.{digits_of}

module _ (n : ℕ) (s : List ℕ) where
  pub another_length : (length s ≡ n → ⊥) → digits_of n s ≡ false
  another_length f = simp (ne_eqb (length s) n f)

  pub right_length : length s ≡ n → digits_of n s ≡ is_digits s
  right_length h = simp (eq-eqb (length s) n h)

  pub of_digits : length s ≡ n → {t : Bool} → is_digits s ≡ t → digits_of n s ≡ t
  of_digits h e = right_length h ∙ e

pub above_zero : (s : List ℕ) → 0 < number_of s → is_digits s ≡ true
unfolding number_of
above_zero s = go (leb (length s) 16) (is_digits s)
  where
    go : (p q : Bool) → 0 < cond (p && q) (value s) 0 → q ≡ true
    go p true h = refl
    go true false h = absurd (omega arith)
    go false false h = absurd (omega arith)
