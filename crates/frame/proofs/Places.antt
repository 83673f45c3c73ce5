-- A walk over a message meets its head, each of its complete items in order, and then the foot and the end, or a break.
-- Assumes nothing.
use mathlib.Core.Path.{◌≡◌, refl, sym, ap, ◌∙◌}
use mathlib.Core.Bool.{Bool, true, false, cond, not, ◌&&◌, false≢true}
use mathlib.Core.List.{List, [], ◌∷◌}
use Prim.Native.Nat.{ℕ, zero, suc, ◌+◌, ◌-◌, ◌*◌, ◌≤◌, ◌<◌}
use native.Mathlib.Nat.{zero-mul}
use native.Mathlib.Omega.{arith}
use lib.ListN.{length, get_or, take, drop, length-drop}
use lib.Seq.{drop-drop}
use lib.Dec.{ltb, eqb}
use borrow.Author.Tests.{eq-eqb, ne_eqb, le-leb, lt-ltb, ltb-true, eqb-true, not-false}
use Rattle.base.proofs.Every.{both}
use Rattle.frame.specs.Records.{Sizes, lengths, head_end, item_end, foot_end, ended, is_foot, item_stands, foot_stands, head_stands}
use Rattle.frame.specs.Records.{items_in, rest_after, items_of, rest_of, is_broken}
use Rattle.frame.specs.Places.{place, beyond, foot_at, later_at, record_at}
use Rattle.frame.specs.declared.Record.TheVariants.{Head, Item, Foot, Break, End}
use Rattle.frame.proofs.Uncut.{ended_long, rest_no_item}

all_three : (a b c : Bool) → a ≡ true → b ≡ true → c ≡ true → a && (b && c) ≡ true
all_three a b c p q r = rw (p, q, r)

module _ (Z : Sizes) where
  abbrev w : ℕ
  w = Z.item + 2

  further : (k : ℕ) (x : List ℕ) → drop (k * w) (drop w x) ≡ drop (suc k * w) x
  further k x =
      let e : w + k * w ≡ suc k * w = omega arith in
      drop-drop (k * w) w x ∙ ap (λ (n : ℕ). drop n x) e

  -- the k-th item stands after k items
  pub record Kth (x r : List ℕ) : Type 0 where
    pub stands : item_stands Z x ≡ true
    pub bytes : r ≡ take Z.item x

  pub kth : (n : ℕ) (x : List ℕ) (k : ℕ) → k < length (items_in Z n x) → Kth (drop (k * w) x) (get_or (items_in Z n x) k [])
  unfolding items_in
  kth zero x k h = absurd (omega arith)
  kth (suc n) x k h = go (item_stands Z x) refl k h (λ j i. kth n (drop w x) j i)
    where
      go : (b : Bool) → item_stands Z x ≡ b → (k : ℕ) → k < length (cond b (take Z.item x ∷ items_in Z n (drop w x)) [])
          → ((j : ℕ) → j < length (items_in Z n (drop w x)) → Kth (drop (j * w) (drop w x)) (get_or (items_in Z n (drop w x)) j []))
          → Kth (drop (k * w) x) (get_or (cond b (take Z.item x ∷ items_in Z n (drop w x)) []) k [])
      go false e k h ih = absurd (omega arith)
      go true e zero h ih = rw zero-mul (record { stands = e; bytes = refl })
      go true e (suc j) h ih = rw (← (further j x)) (ih j (omega arith))

  -- what is left stands after all of them
  pub rest_place : (n : ℕ) (x : List ℕ) → rest_after Z n x ≡ drop (length (items_in Z n x) * w) x
  unfolding items_in rest_after
  rest_place zero x = rw zero-mul
  rest_place (suc n) x = go (item_stands Z x) (rest_place n (drop w x))
    where
      go : (b : Bool) → rest_after Z n (drop w x) ≡ drop (length (items_in Z n (drop w x)) * w) (drop w x)
          → cond b (rest_after Z n (drop w x)) x ≡ drop (length (cond b (take Z.item x ∷ items_in Z n (drop w x)) []) * w) x
      go true ih = ih ∙ further (length (items_in Z n (drop w x))) x
      go false ih = rw zero-mul

-- laws of the sizes: a place stands after the head, with nothing beyond it; a foot is shorter than an item
after_head : (k : ℕ) → head_end ≤ place k
after_head k = omega arith

on_place : (k : ℕ) → beyond (place k) ≡ 0
on_place k = omega arith

off_place : (k : ℕ) → beyond (place k + foot_end) ≡ foot_end
off_place k = omega arith

-- a foot is all that is left
foot_ends : (y : List ℕ) → foot_stands lengths y ≡ true → length y ≡ foot_end
foot_ends y f =
    let g = both (is_foot y) (ended lengths.foot y && eqb (length y) foot_end) f in
    eqb-true (length y) foot_end (both (ended lengths.foot y) (eqb (length y) foot_end) g.1).1

module _ (m : List ℕ) where
  -- what follows the head
  abbrev body : List ℕ
  body = drop head_end m

  -- without a break the head and some item stand, and the foot after the items
  pub record Unbroken : Type 0 where
    pub head : head_stands lengths m ≡ true
    pub some : 0 < length (items_of lengths m)
    pub foot : foot_stands lengths (rest_of lengths m) ≡ true

  pub unbroken : is_broken lengths m ≡ false → Unbroken
  unbroken b =
      let n = length (items_of lengths m) in
      let f = foot_stands lengths (rest_of lengths m) in
      let h = both (head_stands lengths m) (ltb 0 n && f) (not-false (head_stands lengths m && (ltb 0 n && f)) b) in
      let g = both (ltb 0 n) f h.1 in
      record { head = h.0; some = ltb-true 0 n g.0; foot = g.1 }

  -- where the foot stands at a place, the end stands after it
  pub at_end : (k : ℕ) → foot_at m (place k) ≡ true → record_at m (place k + foot_end) ≡ End
  unfolding record_at
  at_end k f =
      let p = place k + foot_end in
      let low = after_head k in
      let l = foot_ends (drop (place k) m) (both (ltb head_end (place k)) (foot_stands lengths (drop (place k) m)) f).1 in
      let in-message = le-leb p (length m) (omega (arith, length-drop (place k) m)) in
      let back : p - foot_end ≡ place k = omega arith in
      rw (ne_eqb p 0 (λ q. omega arith), le-leb head_end p (omega arith), in-message, off_place k, back, f)

-- a message whose head stands
module _ (m : List ℕ) (e : head_stands lengths m ≡ true) where
  abbrev n : ℕ
  n = length (items_of lengths m)

  pub items_are : items_of lengths m ≡ items_in lengths (length m) (body m)
  items_are = rw e

  pub at_head : record_at m 0 ≡ Head 0 head_end
  unfolding record_at
  at_head = rw e

  -- what stands k items after the head stands at a place
  pub from_place : (k : ℕ) → drop (k * item_end) (body m) ≡ drop (place k) m
  from_place k = drop-drop (k * item_end) head_end m

  at_later : (k : ℕ) → place k ≤ length m → record_at m (place k) ≡ later_at m (place k)
  unfolding record_at
  at_later k h =
      let p = place k in
      let low = after_head k in
      rw (ne_eqb p 0 (λ q. omega arith), le-leb head_end p low, le-leb p (length m) h, eq-eqb (beyond p) 0 (on_place k))

  -- each item in its place, and its bytes
  pub at_item : (k : ℕ) → k < n
      → (record_at m (place k) ≡ Item (place k) (place k + item_end)) × (get_or (items_of lengths m) k [] ≡ take lengths.item (drop (place k) m))
  unfolding later_at
  at_item k h =
      let y = drop (place k) m in
      let i : k < length (items_in lengths (length m) (body m)) = rw items_are at h in
      let q = kth lengths (length m) (body m) k i in
      let s : item_stands lengths y ≡ true = sym (ap (item_stands lengths) (from_place k)) ∙ q.stands in
      let l = ended_long lengths.item y (both (not (is_foot y)) (ended lengths.item y) s).1 in
      let bytes = q.bytes ∙ ap (take lengths.item) (from_place k) in
      (at_later k (omega (arith, length-drop (place k) m)) ∙ rw s, ap (λ (l : List (List ℕ)). get_or l k []) items_are ∙ bytes)

  -- what is left after the items
  pub rest_is : rest_of lengths m ≡ drop (place n) m
  rest_is =
      let is = items_in lengths (length m) (body m) in
      rest_place lengths (length m) (body m) ∙ from_place (length is) ∙ ap (λ (l : List (List ℕ)). drop (place (length l)) m) (sym items_are)

  -- no item stands after them, and they lie in the message
  no_item : item_stands lengths (drop (place n) m) ≡ false
  no_item =
      let l : length (body m) ≤ length m = omega (arith, length-drop head_end m) in
      sym (ap (item_stands lengths) rest_is) ∙ rest_no_item (length m) (body m) l

  within : (k : ℕ) → k ≤ length (items_in lengths (length m) (body m)) → place k ≤ length m
  within zero h = ended_long lengths.head m e
  within (suc k) h =
      let y = drop (k * item_end) (body m) in
      let q = (kth lengths (length m) (body m) k (omega arith)).stands in
      let l = ended_long lengths.item y (both (not (is_foot y)) (ended lengths.item y) q).1 in
      omega (arith, length-drop (k * item_end) (body m), length-drop head_end m)

  -- what stands after the items: the foot, or a break
  at_rest : record_at m (place n) ≡ cond (foot_at m (place n)) (Foot (place n) (place n + foot_end)) Break
  unfolding later_at
  at_rest = at_later n (rw items_are (within _ (omega arith))) ∙ rw no_item

  -- without a break the foot stands after the items, with an item before it
  pub foot_stands_lem : is_broken lengths m ≡ false → foot_at m (place n) ≡ true
  foot_stands_lem b =
      let u = unbroken m b in
      let some = u.some in
      let f : foot_stands lengths (drop (place n) m) ≡ true = sym (ap (foot_stands lengths) rest_is) ∙ u.foot in
      rw (lt-ltb head_end (place n) (omega arith), f)

  pub at_foot : is_broken lengths m ≡ false → record_at m (place n) ≡ Foot (place n) (place n + foot_end)
  at_foot b = at_rest ∙ rw (foot_stands_lem b)

  -- with a break after the head, the walk stops after the items
  pub at_break : is_broken lengths m ≡ true → record_at m (place n) ≡ Break
  at_break b = at_rest ∙ go (foot_at m (place n)) refl
    where
      p : ℕ
      p = place n

      go : (f : Bool) → foot_at m p ≡ f → cond f (Foot p (p + foot_end)) Break ≡ Break
      go false g = refl
      go true g = absurd (false≢true (sym (ap not stood) ∙ b))
        where
          both_are : (ltb head_end p ≡ true) × (foot_stands lengths (drop p m) ≡ true)
          both_are = both (ltb head_end p) (foot_stands lengths (drop p m)) g

          some : ltb 0 n ≡ true
          some = lt-ltb 0 n (omega (arith, ltb-true head_end p both_are.0))

          foot : foot_stands lengths (rest_of lengths m) ≡ true
          foot = ap (foot_stands lengths) rest_is ∙ both_are.1

          stood : head_stands lengths m && (ltb 0 n && foot_stands lengths (rest_of lengths m)) ≡ true
          stood = all_three (head_stands lengths m) (ltb 0 n) (foot_stands lengths (rest_of lengths m)) e some foot
