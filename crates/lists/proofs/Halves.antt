-- The search by halves: more turns than are enough change nothing, so that one turn of it is what the code does.
-- Assumes nothing.
use mathlib.Core.Path.{◌≡◌, refl, sym, ◌∙◌}
use mathlib.Core.Bool.{Bool, true, false, cond}
use mathlib.Core.List.{List}
use Prim.Native.Nat.{ℕ, zero, suc, ◌+◌, ◌-◌, ◌/◌, ◌<◌, ◌≤◌}
use native.Mathlib.Omega.{arith}
use lib.Dec.{ltb}
use lib.ListN.{length, get_or, take, drop, length-drop}
use lib.Seq.{length-take-le}
use borrow.Author.Tests.{ltb-true, ltb-false, le-leb, lt-leb}
use Rattle.lists.specs.Banks.{member, half, halved, found_in}

module _ (x : ℕ) where
  module _ (l : List ℕ) where
    abbrev m : ℕ
    m = length l / 2

    -- what holds of each of the two where it is taken holds of the half
    pub either : (P : List ℕ → Type 0) → (x < get_or l m 0 → P (take (length l - m) l)) → (get_or l m 0 ≤ x → P (drop m l)) → P (half x l)
    either P f g = go (ltb x (get_or l m 0)) refl
      where
        go : (t : Bool) → ltb x (get_or l m 0) ≡ t → P (cond t (take (length l - m) l) (drop m l))
        go true e = f (ltb-true x (get_or l m 0) e)
        go false e = g (ltb-false x (get_or l m 0) e)

    -- the two are equally long
    length_half : length (half x l) ≡ length l - m
    length_half = either (λ s. length s ≡ length l - m) (λ h. length-take-le (length l - m) l (omega arith)) (λ h. length-drop m l)

  -- eight elements at most are looked through, whatever the number of turns
  pub short : (n : ℕ) (l : List ℕ) → length l ≤ 8 → halved n x l ≡ member x l
  short zero l h = refl
  short (suc n) l h = simp (le-leb (length l) 8 h)

  -- any two numbers of turns that are enough give the same
  enough : (n k : ℕ) (l : List ℕ) → length l ≤ n + 8 → length l ≤ k + 8 → halved n x l ≡ halved k x l
  enough zero k l p q = sym (short k l p)
  enough (suc n) zero l p q = short (suc n) l q
  enough (suc n) (suc k) l p q = let e = length_half l in simp (enough n k (half x l) (omega arith) (omega arith))

  -- one turn
  pub turn : (l : List ℕ) → 8 < length l → found_in l x ≡ found_in (half x l) x
  turn l h =
      let n = length l in
      let e = length_half l in
      enough n (suc n) l (omega arith) (omega arith)
      ∙ simp (lt-leb n 8 h) (enough n (length (half x l)) (half x l) (omega arith) (omega arith))
