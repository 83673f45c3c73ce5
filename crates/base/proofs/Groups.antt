-- Laws of groups, and of the first of a list that passes a test.
--     length_groups  so many groups as were asked for
--     group_step     what is left at a place is the group there and what is left after it
--     group_at       the group at a place
--     front_groups   the first groups
--     later_groups   the groups from a place on
--     some_place     whether some element passes, by the place of the first that does
-- Assumes nothing.
use mathlib.Core.Path.{◌≡◌, refl, sym, ap, ◌∙◌}
use mathlib.Core.Bool.{Bool, true, false, cond, ◌||◌, or-true, false≢true}
use mathlib.Core.List.{List, [], ◌∷◌}
use Prim.Native.Nat.{ℕ, zero, suc, ◌+◌, ◌-◌, ◌*◌, ◌≤◌, ◌<◌}
use native.Mathlib.Omega.{arith}
use lib.Dec.{ltb}
use lib.ListN.{length, get_or, take, drop}
use lib.Seq.{drop-drop}
use borrow.Author.Tests.{lt-ltb, le-ltb}
use Rattle.base.specs.Groups.{groups, some, place}

pub length_groups : (s w k : ℕ) (l : List ℕ) → length (groups s w k l) ≡ k
length_groups s w zero l = refl
length_groups s w (suc k) l = ap suc (length_groups s w k (drop s l))

module _ (s w : ℕ) where
  on_one : (j : ℕ) (l : List ℕ) → drop (j * s) (drop s l) ≡ drop (suc j * s) l
  on_one j l =
      let e : s + j * s ≡ suc j * s = omega arith in
      drop-drop (j * s) s l ∙ ap (λ (n : ℕ). drop n l) e

  pub group_step : (k : ℕ) (l : List ℕ) (j : ℕ) → j < k → drop j (groups s w k l) ≡ take w (drop (j * s) l) ∷ drop (j + 1) (groups s w k l)
  group_step zero l j h = absurd (omega arith)
  group_step (suc k) l zero h =
      let e : 0 * s ≡ 0 = omega arith in
      ap (λ (n : ℕ). take w (drop n l) ∷ groups s w k (drop s l)) (sym e)
  group_step (suc k) l (suc j) h =
      let e : suc (j + 1) ≡ suc j + 1 = omega arith in
      group_step k (drop s l) j (omega arith)
      ∙ ap (λ (x : List ℕ). take w x ∷ drop (j + 1) (groups s w k (drop s l))) (on_one j l)
      ∙ ap (λ (n : ℕ). take w (drop (suc j * s) l) ∷ drop n (groups s w (suc k) l)) e

  pub group_at : (k : ℕ) (l : List ℕ) (j : ℕ) → j < k → get_or (groups s w k l) j [] ≡ take w (drop (j * s) l)
  group_at zero l j h = absurd (omega arith)
  group_at (suc k) l zero h =
      let e : 0 * s ≡ 0 = omega arith in
      ap (λ (n : ℕ). take w (drop n l)) (sym e)
  group_at (suc k) l (suc j) h = group_at k (drop s l) j (omega arith) ∙ ap (take w) (on_one j l)

  pub front_groups : (k : ℕ) (l : List ℕ) (j : ℕ) → j ≤ k → take j (groups s w k l) ≡ groups s w j l
  front_groups k l zero h = refl
  front_groups zero l (suc j) h = absurd (omega arith)
  front_groups (suc k) l (suc j) h = ap (λ (x : List (List ℕ)). take w l ∷ x) (front_groups k (drop s l) j (omega arith))

  pub later_groups : (k : ℕ) (l : List ℕ) (j : ℕ) → j ≤ k → drop j (groups s w k l) ≡ groups s w (k - j) (drop (j * s) l)
  later_groups k l zero h =
      let e : 0 * s ≡ 0 = omega arith in
      let z : k - 0 ≡ k = omega arith in
      ap (λ (n : ℕ). groups s w n l) (sym z) ∙ ap (λ (n : ℕ). groups s w (k - 0) (drop n l)) (sym e)
  later_groups zero l (suc j) h = absurd (omega arith)
  later_groups (suc k) l (suc j) h =
      let z : k - j ≡ suc k - suc j = omega arith in
      later_groups k (drop s l) j (omega arith)
      ∙ ap (λ (n : ℕ). groups s w n (drop (j * s) (drop s l))) z
      ∙ ap (groups s w (suc k - suc j)) (on_one j l)

-- where some element passes, the first that does is in the list; where none does, its place is the length
pub some_within : {A : Type 0} (f : A → Bool) (xs : List A) → some f xs ≡ true → place f xs < length xs
some_within f [] e = absurd (false≢true e)
some_within {A} f (x ∷ xs) e = go (f x) (some_within f xs) e
  where
    go : (b : Bool) → (some f xs ≡ true → place f xs < length xs) → b || some f xs ≡ true → cond b 0 (suc (place f xs)) < suc (length xs)
    go true k t = omega arith
    go false k t = omega (arith, k t)

pub none_within : {A : Type 0} (f : A → Bool) (xs : List A) → some f xs ≡ false → place f xs ≡ length xs
none_within f [] e = refl
none_within {A} f (x ∷ xs) e = go (f x) (none_within f xs) e
  where
    go : (b : Bool) → (some f xs ≡ false → place f xs ≡ length xs) → b || some f xs ≡ false → cond b 0 (suc (place f xs)) ≡ suc (length xs)
    go true k t = absurd (false≢true (sym t))
    go false k t = ap suc (k t)

-- so the place tells whether some element passes
pub some_place : {A : Type 0} (f : A → Bool) (xs : List A) → some f xs ≡ ltb (place f xs) (length xs)
some_place f xs = go (some f xs) refl
  where
    go : (b : Bool) → some f xs ≡ b → b ≡ ltb (place f xs) (length xs)
    go true e = sym (lt-ltb (place f xs) (length xs) (some_within f xs e))
    go false e = sym (le-ltb (place f xs) (length xs) (omega (arith, none_within f xs e)))

-- the first that passes does pass
pub place_passes : {A : Type 0} (f : A → Bool) (xs : List A) (d : A) → some f xs ≡ true → f (get_or xs (place f xs) d) ≡ true
place_passes f [] d e = absurd (false≢true e)
place_passes {A} f (x ∷ xs) d e = go (f x) refl (place_passes f xs d) e
  where
    go : (b : Bool) → f x ≡ b → (some f xs ≡ true → f (get_or xs (place f xs) d) ≡ true) → b || some f xs ≡ true
        → f (get_or (x ∷ xs) (cond b 0 (suc (place f xs))) d) ≡ true
    go true q k t = q
    go false q k t = k t

-- an element that passes, among the first
pub some_at : {A : Type 0} (f : A → Bool) (xs : List A) (d : A) (k j : ℕ) → k < j → k < length xs → f (get_or xs k d) ≡ true → some f (take j xs) ≡ true
some_at f [] d k j h i e = absurd (omega arith)
some_at f (x ∷ xs) d k zero h i e = absurd (omega arith)
some_at f (x ∷ xs) d zero (suc j) h i e = simp e
some_at f (x ∷ xs) d (suc k) (suc j) h i e = simp (some_at f xs d k j (omega arith) (omega arith) e, or-true)

-- none before the first that passes
pub none_before : {A : Type 0} (f : A → Bool) (xs : List A) → some f (take (place f xs) xs) ≡ false
none_before f [] = refl
none_before {A} f (x ∷ xs) = go (f x) refl (none_before f xs)
  where
    go : (b : Bool) → f x ≡ b → some f (take (place f xs) xs) ≡ false → some f (take (cond b 0 (suc (place f xs))) (x ∷ xs)) ≡ false
    go true e i = refl
    go false e i = ap (λ (b : Bool). b || some f (take (place f xs) xs)) e ∙ i
