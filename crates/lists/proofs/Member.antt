-- In a list that ascends, the search by halves finds exactly the elements.
-- Assumes nothing.
use mathlib.Core.Path.{◌≡◌, refl, sym, ap, ◌∙◌}
use mathlib.Core.Bool.{Bool, true, false, cond, ◌||◌, or_assoc, or-false}
use mathlib.Core.List.{List, [], ◌∷◌, ◌++◌}
use Prim.Native.Nat.{ℕ, zero, suc, ◌-◌, ◌/◌, ◌≤◌, ◌<◌}
use native.Mathlib.Nat.{le_refl}
use native.Mathlib.Omega.{arith}
use lib.Dec.{leb}
use lib.ListN.{length, get_or, take, drop, take-append-drop}
use borrow.Author.Tests.{ne_eqb}
use Rattle.lists.specs.Banks.{member, above, ascends, half, halved, found_in}
use Rattle.lists.proofs.Ascent.{parts, made, weak}
use Rattle.lists.proofs.Halves.{either}

-- the first k elements of a list that ascends ascend
front : (p k : ℕ) (l : List ℕ) → above p l ≡ true → above p (take k l) ≡ true
front p zero l e = refl
front p (suc k) [] e = refl
front p (suc k) (y ∷ ys) e = let h = parts p y ys e in made p y (take k ys) h.0 (front y k ys h.1)

low : (k : ℕ) (l : List ℕ) → ascends l ≡ true → ascends (take k l) ≡ true
low zero l e = refl
low (suc k) [] e = refl
low (suc k) (y ∷ ys) e = front y k ys e

-- and so do those from the k-th on
high : (k : ℕ) (l : List ℕ) → ascends l ≡ true → ascends (drop k l) ≡ true
high zero l e = e
high (suc k) [] e = refl
high (suc k) (y ∷ ys) e = high k ys (weak y ys e)

-- an element of a list that is above p is above p
over : (p k : ℕ) (l : List ℕ) → above p l ≡ true → k < length l → p < get_or l k 0
over p k [] e h = absurd (omega arith)
over p zero (y ∷ ys) e h = (parts p y ys e).0
over p (suc k) (y ∷ ys) e h =
    let i = parts p y ys e in
    let j = over y k ys i.1 (omega arith) in
    omega (arith, i.0)

-- of two equal arms either is taken
arms : (t : Bool) {a b : Bool} → b ≡ a → cond t a b ≡ a
arms true e = refl
arms false e = e

module _ (x : ℕ) where
  -- an element of two lists in a row is one of either
  member_append : (a b : List ℕ) → member x (a ++ b) ≡ member x a || member x b
  member_append [] b = refl
  member_append (y ∷ ys) b = simp (member_append ys b, or_assoc)

  parted : (k : ℕ) (l : List ℕ) → member x l ≡ member x (take k l) || member x (drop k l)
  parted k l = sym (ap (member x) (take-append-drop k l)) ∙ member_append (take k l) (drop k l)

  -- x isn't before an element that is at most x
  before : (k : ℕ) (l : List ℕ) → ascends l ≡ true → k ≤ length l - 1 → get_or l k 0 ≤ x → member x (take k l) ≡ false
  before zero l e h i = refl
  before (suc k) [] e h i = refl
  before (suc k) (y ∷ ys) e h i =
      let j = over y k ys e (omega arith) in
      simp (ne_eqb y x (λ q. omega arith)) (before k ys (weak y ys e) (omega arith) i)

  -- x isn't in a list that is above it, whatever is dropped
  absent : (p k : ℕ) (l : List ℕ) → above p l ≡ true → x ≤ p → member x (drop k l) ≡ false
  absent p zero [] e h = refl
  absent p (suc k) [] e h = refl
  absent p zero (y ∷ ys) e h =
      let i = parts p y ys e in
      simp (ne_eqb y x (λ q. omega arith)) (absent y zero ys i.1 (omega arith))
  absent p (suc k) (y ∷ ys) e h = let i = parts p y ys e in absent y k ys i.1 (omega arith)

  -- x isn't after an element that is above x
  after : (m k : ℕ) (l : List ℕ) → ascends l ≡ true → m ≤ k → x < get_or l m 0 → member x (drop k l) ≡ false
  after m k [] e h i = absurd (omega arith)
  after zero k (y ∷ ys) e h i = absent x k (y ∷ ys) (made x y ys i e) (le_refl x)
  after (suc m) zero (y ∷ ys) e h i = absurd (omega arith)
  after (suc m) (suc k) (y ∷ ys) e h i = after m k ys (weak y ys e) (omega arith) i

  -- the half ascends, and holds x exactly if the list does
  kept : (l : List ℕ) → ascends l ≡ true → (ascends (half x l) ≡ true) × (member x (half x l) ≡ member x l)
  kept l e =
      let m = length l / 2 in
      let k = length l - m in
      either x l (λ s. (ascends s ≡ true) × (member x s ≡ member x l))
      (λ h. (low k l e, sym (parted k l ∙ simp (after m k l e (omega arith) h, or-false))))
      (λ h. (high m l e, sym (parted m l ∙ simp (before m l e (omega arith) h))))

  -- so does what any number of turns leaves
  left : (n : ℕ) (l : List ℕ) → ascends l ≡ true → halved n x l ≡ member x l
  left zero l e = refl
  left (suc n) l e = let h = kept l e in arms (leb (length l) 8) (left n (half x l) h.0 ∙ h.1)

-- in a list that ascends, what is found is what is an element
pub exact : (l : List ℕ) (x : ℕ) → ascends l ≡ true → found_in l x ≡ member x l
exact l x e = left x (length l) l e
