-- Bytes cut into groups of one size, and what some of them pass, all of them, or the first.
-- Assumes nothing.
use Rattle.std.specs.List.{list_all, list_any}
use Rattle.std.specs.Prelude.{ℕ, zero, suc, Bool, cond, List, [], ◌∷◌, take, drop}

-- k groups of w bytes, each begun s bytes after the one before
abbrev pub groups : ℕ → ℕ → ℕ → List ℕ → List (List ℕ)
groups s w zero l = []
groups s w (suc k) l = take w l ∷ groups s w k (drop s l)

-- some element passes the test
abbrev pub some : {A : Type 0} → (A → Bool) → List A → Bool
some = list_any

-- every element passes the test
abbrev pub all : {A : Type 0} → (A → Bool) → List A → Bool
all = list_all

-- the place of the first element that passes the test, counted from 0; the length where none does
abbrev pub place : {A : Type 0} → (A → Bool) → List A → ℕ
place f [] = 0
place f (x ∷ xs) = cond (f x) 0 (suc (place f xs))
