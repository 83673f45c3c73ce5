-- The walk by `after` from `new`: the k-th record that it meets is the k-th of the cut, and its bytes are those that the cut has.
-- Assumes nothing.
use mathlib.Core.Path.{◌≡◌, refl, sym, ap, ◌∙◌}
use mathlib.Core.Bool.{Bool, true, false, cond}
use mathlib.Core.List.{List, [], ◌∷◌, ◌++◌}
use Prim.Native.Nat.{ℕ, zero, suc, ◌+◌, ◌-◌, ◌<◌}
use native.Mathlib.Omega.{arith}
use lib.ListN.{length, get_or, take, drop}
use denote.Ref.{Bor}
use Rattle.frame.specs.Records.{lengths, head_end, item_end, foot_end, items_in, head_stands, head_of, items_of, foot_of, is_broken}
use Rattle.frame.specs.Places.{place}
use Rattle.frame.specs.declared.Record.{Record}
use Rattle.frame.specs.declared.Record.TheVariants.{Head, Item, Foot, End}
use Rattle.frame.proofs.Places as places
use Rattle.viewer.specs.Walk.{item_records, closing_records, records_of, kth, bytes_of}
use Rattle.viewer.specs.Views.{next_at, gone_on, view_at, begun, met, walked}
use Rattle.viewer.proofs.Walk.{at_kth}

-- the view gone on k times is the view at the position k records after its own: so a walk may keep the position
pub kept_at : (s : Bor (List ℕ)) (at k : ℕ) → walked k (view_at s at) ≡ view_at s (gone_on s.now at k)
unfolding walked gone_on
kept_at s at zero = refl
kept_at s at (suc k) = kept_at s (next_at s.now at) k

-- walking k times by `after` from `new` meets the k-th record of the cut
pub walk : (s : Bor (List ℕ)) (k : ℕ) → met (walked k (begun s)) ≡ kth (records_of s.now) k
walk s k = ap met (kept_at s 0 k) ∙ at_kth s.now k

kth_first : (r : Record) (rs : List Record) → kth (r ∷ rs) 0 ≡ r
unfolding kth
kth_first r [] = refl
kth_first r (s ∷ rs) = refl

-- after one record, the k-th item, and what follows the items
kth_item : (h : Record) (j : ℕ) (rs : List (List ℕ)) (tail : List Record) (k : ℕ) → k < length rs
    → kth (h ∷ (item_records j rs ++ tail)) (suc k) ≡ Item (place (j + k)) (place (j + k) + item_end)
unfolding kth item_records
kth_item h j [] tail k i = absurd (omega arith)
kth_item h j (r ∷ rs) tail zero i = let z : j + 0 ≡ j = omega arith in rw z (kth_first (Item (place j) (place j + item_end)) (item_records (j + 1) rs ++ tail))
kth_item h j (r ∷ rs) tail (suc k) i =
    let z : j + suc k ≡ j + 1 + k = omega arith in
    rw z (kth_item (Item (place j) (place j + item_end)) (j + 1) rs tail k (omega arith))

kth_past : (h : Record) (j : ℕ) (rs : List (List ℕ)) (t : Record) (ts : List Record) → kth (h ∷ (item_records j rs ++ (t ∷ ts))) (suc (length rs)) ≡ t
unfolding kth item_records
kth_past h j [] t ts = kth_first t ts
kth_past h j (r ∷ rs) t ts = kth_past (Item (place j) (place j + item_end)) (j + 1) rs t ts

module _ (m : List ℕ) where
  abbrev n : ℕ
  n = length (items_of lengths m)

  abbrev closing : List Record
  closing = closing_records (is_broken lengths m) n

  begins : head_stands lengths m ≡ true → records_of m ≡ Head 0 head_end ∷ (item_records 0 (items_of lengths m) ++ closing)
  unfolding records_of
  begins e = rw e

  -- where there is an item, the head stands
  headed : (k : ℕ) → k < n → head_stands lengths m ≡ true
  headed k i = go (head_stands lengths m) refl i
    where
      go : (b : Bool) → head_stands lengths m ≡ b → k < length (cond b (items_in lengths (length m) (drop head_end m)) []) → head_stands lengths m ≡ true
      go true e i = e
      go false e i = absurd (omega arith)

  third : is_broken lengths m ≡ false → closing ≡ Foot (place n) (place n + foot_end) ∷ End ∷ []
  unfolding closing_records
  third b = rw b

-- the bytes of the head, of the k-th item and of the foot, as the walk meets them
module _ (s : Bor (List ℕ)) where
  abbrev m : List ℕ
  m = s.now

  abbrev is : List (List ℕ)
  is = items_of lengths m

  pub head_bytes : head_stands lengths m ≡ true → bytes_of m (met (walked 0 (begun s))) ≡ head_of lengths m
  head_bytes e = ap (bytes_of m) (walk s 0 ∙ ap (λ (l : List Record). kth l 0) (begins m e) ∙ kth_first (Head 0 head_end) _)

  pub item_met : (k : ℕ) → k < length is → met (walked (suc k) (begun s)) ≡ Item (place k) (place k + item_end)
  item_met k i =
      let z : 0 + k ≡ k = omega arith in
      let it = kth_item (Head 0 head_end) 0 is (closing m) k i in
      walk s (suc k) ∙ ap (λ (l : List Record). kth l (suc k)) (begins m (headed m k i)) ∙ (rw z at it)

  pub item_bytes : (k : ℕ) → k < length is → bytes_of m (met (walked (suc k) (begun s))) ≡ get_or is k []
  item_bytes k i =
      let z : place k + item_end - place k - 2 ≡ lengths.item = omega arith in
      ap (bytes_of m) (item_met k i) ∙ ap (λ (a : ℕ). take a (drop (place k) m)) z ∙ sym (places.at_item m (headed m k i) k i).1

  -- the foot stands where the items end
  abbrev there : ℕ
  there = place (length is)

  pub foot_met : is_broken lengths m ≡ false → met (walked (suc (length is)) (begun s)) ≡ Foot there (there + foot_end)
  foot_met b =
      let k = suc (length is) in
      walk s k
      ∙ ap (λ (l : List Record). kth l k) (begins m (places.unbroken m b).head)
      ∙ ap (λ (l : List Record). kth (Head 0 head_end ∷ (item_records 0 is ++ l)) k) (third m b)
      ∙ kth_past (Head 0 head_end) 0 is (Foot there (there + foot_end)) (End ∷ [])

  pub foot_bytes : is_broken lengths m ≡ false → bytes_of m (met (walked (suc (length is)) (begun s))) ≡ foot_of lengths m
  foot_bytes b =
      let z : there + foot_end - there - 2 ≡ lengths.foot = omega arith in
      let rest = places.rest_is m (places.unbroken m b).head in
      ap (bytes_of m) (foot_met b) ∙ ap (λ (a : ℕ). take a (drop there m)) z ∙ sym (ap (take lengths.foot) rest)
