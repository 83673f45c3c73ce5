-- Codes in a row, the first that isn't 0.
-- Assumes nothing.
use mathlib.Core.Path.{◌≡◌, refl, sym, ◌∙◌}
use mathlib.Core.List.{[], ◌∷◌}
use Prim.Native.Nat.{ℕ, zero, suc, ◌<◌}
use native.Mathlib.Omega.{arith}
use borrow.Author.Tests.{ne_eqb}
use Rattle.frame.specs.Verdict.{first}
use Rattle.frame.specs.Machine.{earlier}

is_first : (c d : ℕ) → earlier (suc c) d ≡ suc c
is_first c d = simp (ne_eqb (suc c) 0 (λ e. omega arith))

-- after the last code there is none
pub or_none : (c : ℕ) → earlier c 0 ≡ c
or_none zero = refl
or_none (suc c) = is_first c 0

pub earlier_lt : {n : ℕ} (c d : ℕ) → c < n → d < n → earlier c d < n
earlier_lt zero d h k = k
earlier_lt (suc c) d h k = rw is_first h

-- none of two
pub neither : (c d : ℕ) → earlier c d ≡ 0 → (c ≡ 0) × (d ≡ 0)
neither zero d e = (refl, e)
neither (suc c) d e = let z : suc c ≡ 0 = sym (is_first c d) ∙ e in absurd (omega arith)

-- of eight codes of which two may not be 0, and of which all but the first may not
module _ (a b c d e f g h : ℕ) where
  pub two_of : b ≡ 0 → c ≡ 0 → e ≡ 0 → f ≡ 0 → g ≡ 0 → h ≡ 0 → first (a ∷ b ∷ c ∷ d ∷ e ∷ f ∷ g ∷ h ∷ []) ≡ earlier a d
  two_of hb hc he hf hg hh = simp (hb, hc, he, hf, hg, hh, or_none d)

  pub seven_of : a ≡ 0 → first (a ∷ b ∷ c ∷ d ∷ e ∷ f ∷ g ∷ h ∷ []) ≡ earlier b (earlier c (earlier d (earlier e (earlier f (earlier g h)))))
  seven_of ha = simp (ha, or_none h)
