-- A table with a line for each number up to the last code has each code's words at its number.
-- Assumes nothing.
use mathlib.Core.Path.{◌≡◌, refl, ◌∙◌, ap}
use mathlib.Core.Bool.{Bool, true, ◌&&◌}
use mathlib.Core.List.{List, [], ◌∷◌}
use Prim.Native.Nat.{ℕ, zero, suc, ◌+◌, ◌≤◌}
use native.Mathlib.Omega.{arith}
use lib.Dec.{ltb}
use lib.ListN.{get_or}
use borrow.Author.Tests.{ne_eqb, ltb-true}
use Rattle.base.proofs.Every.{both}
use Rattle.words.specs.Meanings.{Meaning, meaning_in, meanings, meaning}

-- the words for so many numbers from k on
abbrev pub up_to : ℕ → ℕ → List (List ℕ)
up_to k zero = []
up_to k (suc n) = meaning k ∷ up_to (k + 1) n

-- each code is below n
abbrev below : ℕ → List Meaning → Bool
below n [] = true
below n (m ∷ ms) = ltb m.code n && below n ms

no_code : (n c : ℕ) → n ≤ c → (ms : List Meaning) → below n ms ≡ true → [] ≡ meaning_in ms c
no_code n c h [] e = refl
no_code n c h (m ∷ ms) e =
    let b = both (ltb m.code n) (below n ms) e in
    let l = ltb-true m.code n b.0 in
    rw (ne_eqb c m.code (λ q. omega arith)) (no_code n c h ms b.1)

module _ (below_all : ℕ) (all : below below_all meanings ≡ true) where
  in_table : (k n j : ℕ) → below_all ≤ k + n → get_or (up_to k n) j [] ≡ meaning (k + j)
  in_table k zero j h = no_code below_all (k + j) (omega arith) meanings all
  in_table k (suc n) zero h = let z : k ≡ k + 0 = omega arith in ap meaning z
  in_table k (suc n) (suc j) h = let z : k + 1 + j ≡ k + suc j = omega arith in in_table (k + 1) n j (omega arith) ∙ ap meaning z

-- the number of lines of the table: the last code is 63
abbrev pub lines : ℕ
lines = 64

pub at_code : (c : ℕ) → get_or (up_to 0 lines) c [] ≡ meaning c
unfolding meanings
at_code c = let z : 0 + c ≡ c = omega arith in in_table lines refl 0 lines c (omega arith) ∙ ap meaning z
