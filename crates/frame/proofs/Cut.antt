-- The records of a message that can be cut have their lengths.
-- Assumes nothing.
use mathlib.Core.Path.{◌≡◌, refl}
use mathlib.Core.Bool.{Bool, true, false, cond, not, ◌&&◌}
use mathlib.Core.List.{List, [], ◌∷◌}
use Prim.Native.Nat.{ℕ, zero, suc, ◌+◌}
use native.Mathlib.Omega.{arith}
use lib.ListN.{length, take, drop}
use lib.Seq.{length-take-le}
use lib.Dec.{ltb}
use borrow.Author.Tests.{not-false}
use Rattle.base.specs.Each.{Each}
use Rattle.base.proofs.Every.{both}
use Rattle.frame.specs.Records.{Sizes, ended, is_foot, item_stands, foot_stands, items_in, head_stands, head_of, items_of, rest_of, foot_of, is_broken}
use Rattle.frame.proofs.Uncut.{ended_long}

-- what stands before an ending
before_ending : (n : ℕ) (x : List ℕ) → ended n x ≡ true → length (take n x) ≡ n
before_ending n x e = length-take-le n x (omega (arith, ended_long n x e))

module _ (Z : Sizes) where
  -- each item
  items_long : (n : ℕ) (x : List ℕ) → Each (λ r. length r ≡ Z.item) (items_in Z n x)
  unfolding items_in
  items_long zero x = tt
  items_long (suc n) x = go (item_stands Z x) refl (items_long n (drop (Z.item + 2) x))
    where
      go : (b : Bool) → item_stands Z x ≡ b → Each (λ r. length r ≡ Z.item) (items_in Z n (drop (Z.item + 2) x))
          → Each (λ r. length r ≡ Z.item) (cond b (take Z.item x ∷ items_in Z n (drop (Z.item + 2) x)) [])
      go true s ih = (before_ending Z.item x (both (not (is_foot x)) (ended Z.item x) s).1, ih)
      go false s ih = tt

  pub each_item : (m : List ℕ) → Each (λ r. length r ≡ Z.item) (items_of Z m)
  each_item m = go (head_stands Z m)
    where
      go : (b : Bool) → Each (λ r. length r ≡ Z.item) (cond b (items_in Z (length m) (drop (Z.head + 2) m)) [])
      go true = items_long (length m) (drop (Z.head + 2) m)
      go false = tt

  -- the head and the foot
  module _ (m : List ℕ) (u : is_broken Z m ≡ false) where
    stands : (head_stands Z m ≡ true) × (foot_stands Z (rest_of Z m) ≡ true)
    stands =
        let f = foot_stands Z (rest_of Z m) in
        let i = ltb 0 (length (items_of Z m)) in
        let h = both (head_stands Z m) (i && f) (not-false (head_stands Z m && (i && f)) u) in
        (h.0, (both i f h.1).1)

    pub head_long : length (head_of Z m) ≡ Z.head
    head_long = before_ending Z.head m stands.0

    pub foot_long : length (foot_of Z m) ≡ Z.foot
    foot_long = before_ending Z.foot (rest_of Z m) (both (ended Z.foot (rest_of Z m)) _ (both (is_foot (rest_of Z m)) _ stands.1).1).0
