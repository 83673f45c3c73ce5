-- What `chunks_exact` gives is a slice's groups: the road from which std's lemmas on a chain start. And the first that passes, as `position` tells it.
--     from_chunks        the chunks are the groups
--     from_fronts        the fronts of the chunks, as long as is said, are groups too
--     turn_on, turn_ends, chunk_long     a turn of a loop over the chunks
--     cut_groups         so many groups are those of so many bytes
--     chunks_serve       a closure over the chunks may be called where it may at each list of so many bytes
--     position_place     `position` by the place of the first that passes
--     position_some      whether it tells a place
--     position_found     where it tells a place, some element passes, and the place is that of the first that does
--     position_none      where it tells none, no element passes
-- Assumes nothing.
use mathlib.Core.Path.{◌≡◌, refl, sym, subst, ap, ◌∙◌}
use mathlib.Core.Bool.{Bool, true, false, cond, not}
use mathlib.Core.List.{List, [], ◌∷◌, ◌++◌}
use Prim.Native.Nat.{ℕ, zero, suc, ◌+◌, ◌-◌, ◌*◌, ◌/◌, ◌≤◌, ◌<◌}
use native.Mathlib.Nat.{add-div_left, div-eq_of_lt}
use native.Mathlib.Numerals.{add-one}
use native.Mathlib.Omega.{arith}
use lib.Dec.{ltb}
use lib.ListN.{length, take, drop, length-append}
use lib.Seq.{take_at, drop_at, take-append-le, take-take}
use denote.Ref.{Bor}
use Rattle.std.specs.Prelude.{Option, Some, None, is_some, position}
use Rattle.std.specs.List.{position_or_len, FoldsTo}
use Rattle.std.specs.Iterator.{CallableAtEachTurn, Yields}
use Rattle.std.specs.Slice.Iter.{chunks_exact_rest, chunks_exact_size, chunks_exact_steps}
use Rattle.std.specs.declared.slice.ChunksExact.{ChunksExact}
use Rattle.std.proofs.lemmas.Iterator.{YieldsList}
use Rattle.std.proofs.lemmas.Iterator.Splits.{YieldsList-from_shown_while}
use Rattle.base.specs.Groups.{groups, some, place}
use Rattle.base.proofs.Parts.{drop_take}
use Rattle.base.proofs.Groups.{length_groups, some_place}

-- chunks of n bytes, the first w of each, by a reading h that gives them
module _ (n w : ℕ) (h : List ℕ → List ℕ) (front : (x y : List ℕ) → length x ≡ n → take w (x ++ y) ≡ h x) (few : 0 < n) where
  shown : ChunksExact ℕ → List (List ℕ)
  shown s = groups n w (length (chunks_exact_rest s) / n) (chunks_exact_rest s)

  ends : (s t : ChunksExact ℕ) → chunks_exact_size s ≡ n → chunks_exact_steps s None t → length (shown s) ≡ 0
  unfolding shown
  ends s t e k =
      let i : length (chunks_exact_rest s) < n = omega (arith, e, k.1.0) in
      length_groups n w (length (chunks_exact_rest s) / n) (chunks_exact_rest s) ∙ div-eq_of_lt i

  one : (l x y : List ℕ) → l ≡ x ++ y → length x ≡ n → groups n w (length l / n) l ≡ h x ∷ groups n w (length y / n) y
  one l x y e m =
      let c : length l ≡ n + length y = ap length e ∙ length-append x y ∙ ap (λ (i : ℕ). i + length y) m in
      let d : length l / n ≡ suc (length y / n) = ap (λ (i : ℕ). i / n) c ∙ add-div_left (length y) few ∙ add-one (length y / n) in
      ap (λ (i : ℕ). groups n w i l) d
      ∙ ap (λ (z : List ℕ). take w z ∷ groups n w (length y / n) (drop n z)) e
      ∙ ap (λ (z : List ℕ). z ∷ groups n w (length y / n) (drop n (x ++ y))) (front x y m)
      ∙ ap (λ (z : List ℕ). h x ∷ groups n w (length y / n) z) (drop_at x y n m)

  goes : (s : ChunksExact ℕ) (x : Bor (List ℕ)) (t : ChunksExact ℕ) → chunks_exact_size s ≡ n → chunks_exact_steps s (Some x) t
      → (chunks_exact_size t ≡ n) × (shown s ≡ h x.now ∷ shown t)
  unfolding shown
  goes s x t e k = (k.0 ∙ e, one (chunks_exact_rest s) x.now (chunks_exact_rest t) k.1.0 (k.1.1 ∙ e))

  road : {s : ChunksExact ℕ} (l : List ℕ) → chunks_exact_rest s ≡ l → chunks_exact_size s ≡ n
      → YieldsList chunks_exact_steps (λ x. h x.now) s (groups n w (length l / n) l)
  unfolding shown
  road {s} l r e =
      rw (← r) (YieldsList-from_shown_while chunks_exact_steps (λ x. h x.now) shown (λ t. chunks_exact_size t ≡ n) ends goes s e)

-- the chunks of n bytes are the groups
pub from_chunks : {s : ChunksExact ℕ} (n : ℕ) (l : List ℕ) → 0 < n → chunks_exact_rest s ≡ l → chunks_exact_size s ≡ n
    → YieldsList chunks_exact_steps (λ x. x.now) s (groups n n (length l / n) l)
from_chunks n l few = road n n (λ x. x) (λ x y m. take_at x y n m) few l

-- the first w bytes of each
pub from_fronts : {s : ChunksExact ℕ} (n w : ℕ) (l : List ℕ) → w ≤ n → 0 < n → chunks_exact_rest s ≡ l → chunks_exact_size s ≡ n
    → YieldsList chunks_exact_steps (λ x. take w x.now) s (groups n w (length l / n) l)
from_fronts n w l h few = road n w (take w) (λ x y m. take-append-le w x y (omega (arith, m, h))) few l

-- a turn of a loop over the chunks: the next is the first of what is left, and where none comes nothing is left
module _ (n w : ℕ) (h : w ≤ n) (few : 0 < n) (s t : ChunksExact ℕ) (e : chunks_exact_size s ≡ n) where
  pub turn_on : (x : Bor (List ℕ)) → chunks_exact_steps s (Some x) t → (chunks_exact_size t ≡ n)
      × (groups n w (length (chunks_exact_rest s) / n) (chunks_exact_rest s)
      ≡ take w x.now ∷ groups n w (length (chunks_exact_rest t) / n) (chunks_exact_rest t))
  unfolding shown
  turn_on x k = goes n w (take w) (λ a b m. take-append-le w a b (omega (arith, m, h))) few s x t e k

  pub turn_ends : chunks_exact_steps s None t → groups n w (length (chunks_exact_rest s) / n) (chunks_exact_rest s) ≡ []
  turn_ends k =
      let i : length (chunks_exact_rest s) < n = omega (arith, e, k.1.0) in
      ap (λ (j : ℕ). groups n w j (chunks_exact_rest s)) (div-eq_of_lt i)

pub chunk_long : (n : ℕ) (s t : ChunksExact ℕ) (x : Bor (List ℕ)) → chunks_exact_size s ≡ n → chunks_exact_steps s (Some x) t → length x.now ≡ n
chunk_long n s t x e k = k.1.1 ∙ e

-- so many groups are those of so many bytes
pub cut_groups : (s w k : ℕ) (l : List ℕ) → w ≤ s → groups s w k (take (k * s) l) ≡ groups s w k l
cut_groups s w zero l h = refl
cut_groups s w (suc k) l h =
    let e : suc k * s ≡ s + k * s = omega arith in
    let i : w ≤ suc k * s = omega (arith, e, h) in
    let j : suc k * s - s ≡ k * s = omega (arith, e) in
    ap (λ (x : List ℕ). x ∷ groups s w k (drop s (take (suc k * s) l))) (take-take w (suc k * s) l i)
    ∙ ap (λ (x : List ℕ). take w l ∷ groups s w k x) (drop_take s (suc k * s) l ∙ ap (λ (n : ℕ). take n (drop s l)) j)
    ∙ ap (λ (x : List (List ℕ)). take w l ∷ x) (cut_groups s w k (drop s l) h)

-- a closure that may be called at each list of n bytes may be called at each chunk
pub chunks_serve : {F : Type 0} {R : F → Bor (List ℕ) → F → Type 0} {Q : F → Bor (List ℕ) → Type 0} {s : ChunksExact ℕ} {f : F} (n : ℕ)
    → chunks_exact_size s ≡ n → ((x : Bor (List ℕ)) (q : F) → R f x q → q ≡ f) → ((x : Bor (List ℕ)) → length x.now ≡ n → Q f x)
    → CallableAtEachTurn chunks_exact_steps R Q s f
chunks_serve {F} {R} {Q} {s} {f} n e same may = record { at = λ xs t q x u y g k. at xs s t q x u e y g k }
  where
    sized : (xs : List (Bor (List ℕ))) (s t : ChunksExact ℕ) → chunks_exact_size s ≡ n → Yields chunks_exact_steps s xs t → chunks_exact_size t ≡ n
    sized [] s t e y = ap (λ (u : ChunksExact ℕ). chunks_exact_size u) (sym y) ∙ e
    sized (x ∷ xs) s t e y = sized xs y.0 t (y.1.0 ∙ e) y.2

    kept : (xs : List (Bor (List ℕ))) (p q : F) → p ≡ f → FoldsTo R p xs q → q ≡ f
    kept [] p q e g = sym g ∙ e
    kept (x ∷ xs) p q e g = kept xs g.0 q (same x g.0 (subst (λ (z : F). R z x g.0) e g.1)) g.2

    at : (xs : List (Bor (List ℕ))) (s t : ChunksExact ℕ) (q : F) (x : Bor (List ℕ)) (u : ChunksExact ℕ) → chunks_exact_size s ≡ n
        → Yields chunks_exact_steps s xs t → FoldsTo R f xs q → chunks_exact_steps t (Some x) u → Q q x
    at xs s t q x u e y g k = rw (kept xs f q refl g) (may x (k.1.1 ∙ sized xs s t e y))

-- the place of the first that passes is where `position` looks for it
same_place : {A : Type 0} (f : A → Bool) (xs : List A) → position_or_len f xs ≡ place f xs
same_place f [] = refl
same_place f (x ∷ xs) = go (f x) (same_place f xs)
  where
    go : (b : Bool) {p q : ℕ} → p ≡ q → cond (not b) (1 + p) 0 ≡ cond b 0 (suc q)
    go true e = refl
    go false e = omega (arith, e)

pub position_place : {A : Type 0} (f : A → Bool) (xs : List A)
    → position f xs ≡ cond (ltb (place f xs) (length xs)) (Some (place f xs)) None
position_place f xs = ap (λ (i : ℕ). cond (ltb i (length xs)) (Some i) None) (same_place f xs)

pub position_by : {A : Type 0} (f : A → Bool) (xs : List A) → position f xs ≡ cond (some f xs) (Some (place f xs)) None
position_by f xs = position_place f xs ∙ ap (λ (b : Bool). cond b (Some (place f xs)) None) (sym (some_place f xs))

module _ {A : Type 0} (f : A → Bool) (xs : List A) {r : Option ℕ} (e : r ≡ position f xs) where
  -- whether it tells a place
  pub position_some : is_some r ≡ some f xs
  position_some = ap is_some (e ∙ position_by f xs) ∙ go (some f xs)
    where
      go : (b : Bool) → is_some (cond b (Some (place f xs)) None) ≡ b
      go true = refl
      go false = refl

  pub position_none : r ≡ None → some f xs ≡ false
  position_none n = go (some f xs) (sym n ∙ e ∙ position_by f xs)
    where
      go : (b : Bool) → None ≡ cond b (Some (place f xs)) None → b ≡ false
      go true q = cc
      go false q = refl

  pub position_found : {k : ℕ} → r ≡ Some k → (some f xs ≡ true) × (k ≡ place f xs)
  position_found {k} n = go (some f xs) (sym n ∙ e ∙ position_by f xs)
    where
      go : (b : Bool) → Some k ≡ cond b (Some (place f xs)) None → (b ≡ true) × (k ≡ place f xs)
      go true q = (refl, cc)
      go false q = cc
