-- The halves of an account field.
-- Assumes nothing.
use mathlib.Core.Path.{◌≡◌, sym, ap, ◌∙◌}
use mathlib.Core.Bool.{Bool, true, false, ◌&&◌}
use mathlib.Core.List.{List}
use Prim.Native.Nat.{ℕ}
use native.Mathlib.Omega.{arith}
use lib.ListN.{length, get_or, take, drop, length-drop}
use lib.Seq.{take_all}
use borrow.Author.Tests.{eqb-true, ne_eqb}
use Rattle.base.specs.Bytes.{every}
use Rattle.base.proofs.Walk.{step}
use Rattle.base.proofs.Every.{both, every_parts}
use Rattle.text.specs.Text.{is_blank}
use Rattle.digits.specs.Digits.{digit, is_digits}
use Rattle.account.specs.Account.{first_eight, last_eight}

-- the part from place 9 to 16 is all that follows place 8
pub all_last : (s : List ℕ) → length s ≡ 16 → take 8 (drop 8 s) ≡ last_eight s
all_last s h = take_all 8 (drop 8 s) (omega (arith, length-drop 8 s))

pub half : (f : ℕ → Bool) (s : List ℕ) → length s ≡ 16 → {t : Bool} → every f (take 8 (drop 8 s)) ≡ t → every f (last_eight s) ≡ t
half f s h e = sym (ap (every f) (all_last s h)) ∙ e

-- another byte than a space at place 9, or a space there and what follows it
pub no_space : (s : List ℕ) → length s ≡ 16 → (get_or s 8 0 ≡ 32 → ⊥) → is_blank (last_eight s) ≡ false
no_space s h f = simp (step s 8 (omega arith), ne_eqb (get_or s 8 0) 32 f)

pub after_space : (s : List ℕ) → length s ≡ 16 → get_or s 8 0 ≡ 32 → is_blank (last_eight s) ≡ is_blank (take 7 (drop 9 s))
after_space s h f =
    let d : is_blank (last_eight s) ≡ is_blank (drop 9 s) = simp (step s 8 (omega arith), f) in
    d ∙ sym (ap is_blank (take_all 7 (drop 9 s) (omega (arith, length-drop 9 s))))

-- sixteen digits are eight and eight
pub digits_in_halves : (s : List ℕ) → is_digits s ≡ is_digits (first_eight s) && is_digits (last_eight s)
digits_in_halves = every_parts digit 8

-- eight spaces are no digits
pub blank_no_digits : (s : List ℕ) → length s ≡ 16 → is_blank (last_eight s) ≡ true → is_digits (last_eight s) ≡ false
blank_no_digits s h e =
    let d = step s 8 (omega arith) in
    let p = both _ _ (rw d at e) in
    simp (d, eqb-true (get_or s 8 0) 32 p.0)
