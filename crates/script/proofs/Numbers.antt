-- The numbers of a list, one more at a time.
-- Assumes nothing.
use mathlib.Core.Path.{◌≡◌, refl, sym, ap, ◌∙◌}
use mathlib.Core.List.{List, [], ◌∷◌, ◌++◌}
use Prim.Native.Nat.{ℕ, zero, suc, ◌+◌, ◌-◌, ◌*◌, ◌/◌, ◌<◌, ◌≤◌}
use native.Mathlib.Nat.{min-eq_left, min-eq_right}
use native.Mathlib.Numerals.{add-one}
use native.Mathlib.Omega.{arith}
use lib.ListN.{length, set, take, drop, length-append, length-drop}
use lib.Seq.{length-take-le, take_all}
use Rattle.base.specs.Counts.{IsPrefixLen}
use Rattle.base.specs.Bytes.{over}
use Rattle.base.proofs.Over.{length_over, over_none, over_set}
use borrow.Author.Tests.{ltb-true, ltb-false}
use Rattle.std.specs.Prelude.{position, nat_lt, Option, Some, None, MatchOption}
use Rattle.std.specs.List.{prefix_len}
use mathlib.Core.Bool.{Bool, true, false, cond, not}
use lib.Dec.{eqb}
use Rattle.script.specs.Script.{onward, Ends, field_of, numbers_of, FilledAs}

count : (n : ℕ) (s : List ℕ) → length (numbers_of n s) ≡ n
count zero s = refl
count (suc n) s = length-append (numbers_of n s) (field_of s (n * 10) (n * 10 + 10) ∷ []) ∙ omega (arith, count n s)

-- the first i numbers stand at the front of the list
pub record Filled (list₀ s list : List ℕ) (i : ℕ) : Type 0 where
  pub room : i ≤ length list₀
  pub within : i ≤ length s / 10
  pub stands : list ≡ over list₀ 0 (numbers_of i s)

pub empty : (list s : List ℕ) → Filled list s list 0
empty list s = record { room = omega arith; within = omega arith; stands = sym (over_none list 0) }

module _ {list₀ s list : List ℕ} {i : ℕ} (w : Filled list₀ s list i) where
  pub as_long : length list ≡ length list₀
  as_long = ap length w.stands ∙ length_over list₀ 0 (numbers_of i s) (omega (arith, count i s, w.room))

  pub counted : IsPrefixLen i list
  counted = let h : i ≤ length list = omega (arith, w.room, as_long) in (h, sym (length-take-le i list h))

  pub all : length s / 10 ≤ i → FilledAs list₀ s i list
  all h =
      let e : i ≡ length s / 10 = omega (arith, w.within) in
      record { result = sym (min-eq_left (omega (arith, w.room)) ∙ sym e); numbers = w.stands }

  pub full : length list ≤ i → FilledAs list₀ s i list
  full h =
      let e : i ≡ length list₀ = omega (arith, w.room, as_long) in
      record { result = sym (min-eq_right (omega (arith, w.within)) ∙ sym e); numbers = w.stands }

  pub one_more : i < length list → i < length s / 10 → (x : ℕ) → x ≡ field_of s (i * 10) (i * 10 + 10) → Filled list₀ s (set list i x) (i + 1)
  one_more h k x g =
      let d = numbers_of i s in
      let c : length d ≡ i = count i s in
      let o : set (over list₀ 0 d) (0 + length d) x ≡ over list₀ 0 (d ++ (x ∷ [])) = over_set list₀ 0 d x (omega (arith, as_long)) in
      let z : 0 + length d ≡ i = omega arith in
      let l : d ++ (x ∷ []) ≡ numbers_of (i + 1) s = ap (λ (y : ℕ). d ++ (y ∷ [])) g ∙ rw add-one refl in
      record {
        room = omega (arith, as_long);
        within = omega arith;
        stands = ap (λ (y : List ℕ). set y i x) w.stands ∙ rw z at o ∙ ap (over list₀ 0) l;
      }

-- what is left from the first b on, and what lies before it
before : (b : ℕ) (xs : List ℕ) → length (onward b xs) + prefix_len (λ x. not (eqb x b)) xs ≡ length xs
before b [] = refl
before b (x ∷ xs) = go (eqb x b) (before b xs)
  where
    go : (t : Bool) → length (onward b xs) + prefix_len (λ y. not (eqb y b)) xs ≡ length xs
        → length (cond t (x ∷ xs) (onward b xs)) + cond (not t) (1 + prefix_len (λ y. not (eqb y b)) xs) 0 ≡ length (x ∷ xs)
    go true h = omega arith
    go false h = omega arith

-- what a place that is told says of the bytes that lie before it
told : (n l : ℕ) (t : Bool) (r : Option ℕ) → nat_lt n l ≡ t → cond t (Some n) None ≡ r → MatchOption r (l ≤ n) (λ k. (k ≡ n) × (n < l))
told n l true (Some k) e q = (sym (let x : n ≡ k = cc in x), ltb-true n l e)
told n l true None e q = absurd (cc)
told n l false (Some k) e q = absurd (cc)
told n l false None e q = ltb-false n l e

module _ (s : List ℕ) (from b : ℕ) {r : Option ℕ} (t : r ≡ position (λ x. eqb x b) (take (length s - from) (drop from s))) where
  is : position (λ x. eqb x b) (drop from s) ≡ r
  is =
      let z : take (length s - from) (drop from s) ≡ drop from s = take_all (length s - from) (drop from s) (omega (arith, length-drop from s)) in
      sym (rw z at t)

  -- the place of the first b after a place, where there is one
  pub found : {k : ℕ} → from < length s → r ≡ Some k → Ends s from b (from + k)
  found {k} h e =
      let p = told (prefix_len (λ x. not (eqb x b)) (drop from s)) (length (drop from s)) _ (Some k) refl (is ∙ e) in
      let l = before b (drop from s) in
      let d = length-drop from s in
      record { place = omega (arith, p.0, p.1); within = omega (arith, p.0, p.1); after = omega arith }

  -- and the end, where there is none
  pub missed : from < length s → r ≡ None → Ends s from b (length s)
  missed h e =
      let p = told (prefix_len (λ x. not (eqb x b)) (drop from s)) (length (drop from s)) _ None refl (is ∙ e) in
      let l = before b (drop from s) in
      let d = length-drop from s in
      record { place = omega (arith, p); within = omega arith; after = omega arith }
