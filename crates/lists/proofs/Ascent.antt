-- A list that ascends: its tests taken apart, and its last number, which alone decides whether every number is at most a limit.
-- Assumes nothing.
use mathlib.Core.Path.{◌≡◌, refl, sym, ap, ◌∙◌}
use mathlib.Core.Bool.{Bool, true, false, ◌&&◌, and_assoc, and-true, and-false}
use mathlib.Core.List.{List, [], ◌∷◌}
use Prim.Native.Nat.{ℕ, suc, ◌-◌, ◌<◌}
use native.Mathlib.Omega.{arith}
use lib.Dec.{leb, ltb}
use lib.ListN.{length, get_or}
use borrow.Author.Tests.{ltb-true, leb-true, lt-ltb, le-leb}
use Rattle.base.specs.Bytes.{every}
use Rattle.base.proofs.Every.{both}
use Rattle.lists.specs.Banks.{above, ascends, ascends_to, is_bank_list}

-- above p of x ∷ l, taken apart
pub parts : (p x : ℕ) (l : List ℕ) → above p (x ∷ l) ≡ true → (p < x) × (above x l ≡ true)
parts p x l e = let h = both (ltb p x) (above x l) e in (ltb-true p x h.0, h.1)

-- and put together
pub made : (p x : ℕ) (l : List ℕ) → p < x → above x l ≡ true → above p (x ∷ l) ≡ true
made p x l h e = simp (lt-ltb p x h) e

-- a list that is above something ascends
pub weak : (p : ℕ) (l : List ℕ) → above p l ≡ true → ascends l ≡ true
weak p [] e = refl
weak p (x ∷ l) e = (parts p x l e).1

module _ (top : ℕ) where
  -- a smaller number passes where a greater one does
  smaller : (x y : ℕ) → x < y → leb x top && leb y top ≡ leb y top
  smaller x y h = go (leb y top) refl
    where
      go : (t : Bool) → leb y top ≡ t → leb x top && leb y top ≡ leb y top
      go true e = let k = leb-true y top e in simp (le-leb x top (omega arith))
      go false e = simp (e, and-false)

  -- every number passes exactly when the last does
  last : (x : ℕ) (l : List ℕ) → above x l ≡ true → every (λ y. leb y top) (x ∷ l) ≡ leb (get_or (x ∷ l) (length l) 0) top
  last x [] e = and-true (leb x top)
  last x (y ∷ ys) e =
      let h = parts x y ys e in
      let rest = every (λ z. leb z top) ys in
      sym (and_assoc (leb x top) (leb y top) rest) ∙ ap (λ (t : Bool). t && rest) (smaller x y h.0) ∙ last y ys h.1

  -- only the last number is to be compared with the limit
  pub by_last : (l : List ℕ) → (length l ≡ 0 → ⊥) → ascends_to top l ≡ ascends l && leb (get_or l (length l - 1) 0) top
  by_last [] f = absurd (f refl)
  by_last (x ∷ xs) f =
      let z : suc (length xs) - 1 ≡ length xs = omega arith in
      simp z (go (above x xs) refl)
    where
      go : (t : Bool) → above x xs ≡ t → t && every (λ y. leb y top) (x ∷ xs) ≡ t && leb (get_or (x ∷ xs) (length xs) 0) top
      go true e = last x xs e
      go false e = refl

-- a list that ascends to a limit ascends
pub ordered : (top : ℕ) (l : List ℕ) → ascends_to top l ≡ true → ascends l ≡ true
ordered top l e = (both (ascends l) (every (λ x. leb x top) l) e).0

-- a bank list ascends
pub bank_ascends : (l : List ℕ) → is_bank_list l ≡ true → ascends l ≡ true
bank_ascends l e = ordered 99999999 l e
