-- What `starts_with` answers of bytes: that the first of them are a text's.
-- Assumes nothing.
use mathlib.Core.Path.{◌≡◌, refl, ap, ◌∙◌}
use mathlib.Core.Bool.{Bool, ◌&&◌, and-true, and-false}
use mathlib.Core.List.{List, [], ◌∷◌}
use Prim.Native.Nat.{ℕ, ◌+◌, ◌-◌, ◌≤◌, ◌<◌}
use native.Mathlib.Nat.{add-zero}
use native.Mathlib.Omega.{arith}
use Rattle.std.proofs.lemmas.Bool.Decides.{nat_tests}
use lib.Dec.{leb, eqb}
use lib.ListN.{length, get_or, take, drop, length-drop}
use lib.Seq.{get_or-drop}
use lib.Pointwise.{pointwise}
use borrow.Author.Tests.{le-leb, lt-leb}
use Rattle.std.specs.List.{starts_with}
use Rattle.base.specs.Bytes.{same}
use Rattle.base.proofs.Parts.{tail}
use Rattle.base.proofs.Same.{same_sym}
use Rattle.frame.specs.Records.{ending, ended}

equal : (s t : List ℕ) → pointwise eqb s t ≡ same s t
equal [] [] = refl
equal [] (y ∷ t) = refl
equal (x ∷ s) [] = refl
equal (x ∷ s) (y ∷ t) = ap (λ (b : Bool). eqb x y && b) (equal s t)

pub starts : (x t : List ℕ) → starts_with eqb x t ≡ same (take (length t) x) t
starts x t = equal t (take (length t) x) ∙ same_sym t (take (length t) x)

-- two bytes at the front
two : (a b : ℕ) (y : List ℕ) → same (take 2 y) (a ∷ b ∷ []) ≡ leb 2 (length y) && (eqb (get_or y 0 0) a && eqb (get_or y 1 0) b)
two a b [] = refl
two a b (p ∷ []) = and-false (eqb p a)
two a b (p ∷ q ∷ y) =
    let l : 2 ≤ length (p ∷ q ∷ y) = omega arith in
    rw (le-leb 2 (length (p ∷ q ∷ y)) l, and-true (eqb q b))

module _ (n : ℕ) (x : List ℕ) where
  -- the ending at the front of what is left after n bytes
  pub ends_so : n ≤ length x → {r : Bool} → r ≡ starts_with eqb (take (length x - n) (drop n x)) ending → r ≡ ended n x
  unfolding ended
  ends_so h e =
      let k : leb 2 (length (drop n x)) ≡ leb (n + 2) (length x) = grind (arith, nat_tests, length-drop n x) in
      e ∙ ap (λ (y : List ℕ). starts_with eqb y ending) (tail x n) ∙ starts (drop n x) ending ∙ two 13 10 (drop n x)
      ∙ rw (k, get_or-drop n x 0 0, get_or-drop n x 1 0, add-zero)

  pub no_room : length x < n → leb n (length x) ≡ ended n x
  unfolding ended
  no_room h = rw (lt-leb n (length x) h, lt-leb (n + 2) (length x) (omega arith))
