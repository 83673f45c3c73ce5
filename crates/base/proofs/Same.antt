-- Two lists that are walked side by side: what is left of the two is the same if the two are.
-- Assumes nothing.
use mathlib.Core.Path.{◌≡◌, refl, sym, ap, ◌∙◌}
use mathlib.Core.Bool.{Bool, true, false, and-false, false≢true}
use mathlib.Core.List.{List, [], ◌∷◌}
use Prim.Native.Nat.{ℕ, suc, ◌+◌, ◌<◌, ◌≤◌}
use lib.ListN.{length, get_or, drop}
use lib.Dec.{eqb}
use borrow.Author.Tests.{eqb-true, eq-eqb, ne_eqb}
use Rattle.base.specs.Bytes.{same}
use Rattle.base.proofs.Walk.{step, done}
use Rattle.base.proofs.Every.{both}

-- lists of unlike lengths are not the same
pub unlike : (s t : List ℕ) → (length s ≡ length t → ⊥) → same s t ≡ false
unlike [] [] f = absurd (f refl)
unlike [] (y ∷ ys) f = refl
unlike (x ∷ xs) [] f = refl
unlike (x ∷ xs) (y ∷ ys) f =
    let g : length xs ≡ length ys → ⊥ = λ e. f (ap suc e) in
    simp (unlike xs ys g, and-false)

-- what is left of the two at place i decides as the whole does
pub record Walked (s t : List ℕ) (i : ℕ) : Type 0 where
  pub left : same (drop i s) (drop i t) ≡ same s t

module _ {s t : List ℕ} {i : ℕ} (w : Walked s t i) where
  pub ends : length s ≤ i → length t ≤ i → true ≡ same s t
  ends h k = simp (done s i h, done t i k) at w.left

  module _ (h : i < length s) (k : i < length t) where
    pub stops : (get_or s i 0 ≡ get_or t i 0 → ⊥) → false ≡ same s t
    stops f = simp (step s i h, step t i k, ne_eqb (get_or s i 0) (get_or t i 0) f) at w.left

    pub on : get_or s i 0 ≡ get_or t i 0 → Walked s t (i + 1)
    on e = record { left = simp (step s i h, step t i k, eq-eqb (get_or s i 0) (get_or t i 0) e) at w.left }

-- two that are the same, either way round
pub same_true : (s t : List ℕ) → same s t ≡ true → s ≡ t
same_true [] [] e = refl
same_true [] (y ∷ ys) e = absurd (false≢true e)
same_true (x ∷ xs) [] e = absurd (false≢true e)
same_true (x ∷ xs) (y ∷ ys) e =
    let h = both (eqb x y) (same xs ys) e in
    ap (λ (z : ℕ). z ∷ xs) (eqb-true x y h.0) ∙ ap (λ (zs : List ℕ). y ∷ zs) (same_true xs ys h.1)

pub same_refl : (s : List ℕ) → same s s ≡ true
same_refl [] = refl
same_refl (x ∷ xs) = simp (eq-eqb x x refl, same_refl xs)

pub same_sym : (s t : List ℕ) → same s t ≡ same t s
same_sym s t = go (same s t) (same t s) refl refl
  where
    go : (p q : Bool) → same s t ≡ p → same t s ≡ q → p ≡ q
    go true true e f = refl
    go false false e f = refl
    go true false e f = absurd (false≢true (sym f ∙ ap (λ (z : List ℕ). same t z) (same_true s t e) ∙ same_refl t))
    go false true e f = absurd (false≢true (sym e ∙ ap (λ (z : List ℕ). same s z) (same_true t s f) ∙ same_refl s))
