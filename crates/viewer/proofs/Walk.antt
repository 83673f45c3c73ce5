-- A walk meets the records of the cut, one after the other, and stays at the break or the end.
-- Assumes nothing.
use mathlib.Core.Path.{◌≡◌, refl, ap, ◌∙◌}
use mathlib.Core.Bool.{Bool, true, false, cond}
use mathlib.Core.List.{List, [], ◌∷◌, ◌++◌}
use Prim.Native.Nat.{ℕ, zero, suc, ◌+◌, ◌<◌}
use native.Mathlib.Omega.{arith}
use lib.ListN.{length}
use Rattle.frame.specs.Records.{lengths, head_end, item_end, head_stands, items_of, is_broken}
use Rattle.frame.specs.Places.{place, record_at}
use Rattle.frame.specs.declared.Record.{Record}
use Rattle.frame.specs.declared.Record.TheVariants.{Head, Item, Break}
use Rattle.frame.proofs.Places as places
use Rattle.viewer.specs.Walk.{item_records, closing_records, records_of, kth}
use Rattle.viewer.specs.Views.{next_of, next_at, gone_on}

-- a walk from a position meets these records, and stays at the last
abbrev pub Meets : List ℕ → ℕ → List Record → Type 0
Meets m at [] = ⊥
Meets m at (r ∷ []) = (record_at m at ≡ r) × (next_of r at ≡ at)
Meets m at (r ∷ s ∷ rs) = (record_at m at ≡ r) × Meets m (next_of r at) (s ∷ rs)

more : (m : List ℕ) (at : ℕ) (r : Record) (rs : List Record) → record_at m at ≡ r → Meets m (next_of r at) rs → Meets m at (r ∷ rs)
more m at r [] e w = absurd w
more m at r (s ∷ rs) e w = (e, w)

next_is : (m : List ℕ) (at : ℕ) (r : Record) → record_at m at ≡ r → next_at m at ≡ next_of r at
unfolding next_at
next_is m at r e = ap (λ (x : Record). next_of x at) e

-- such a walk meets the k-th of them after k steps
pub after_steps : (m : List ℕ) (rs : List Record) (at : ℕ) → Meets m at rs → (k : ℕ) → record_at m (gone_on m at k) ≡ kth rs k
unfolding gone_on kth
after_steps m [] at w k = absurd w
after_steps m (r ∷ []) at w zero = w.0
after_steps m (r ∷ []) at w (suc k) = rw (next_is m at r w.0 ∙ w.1) (after_steps m (r ∷ []) at w k)
after_steps m (r ∷ s ∷ rs) at w zero = w.0
after_steps m (r ∷ s ∷ rs) at w (suc k) = rw (next_is m at r w.0) (after_steps m (s ∷ rs) (next_of r at) w.1 k)

-- the items in their places, and what follows them
items_met : (m : List ℕ) (rs : List (List ℕ)) (k : ℕ) (tail : List Record)
    → ((j : ℕ) → j < length rs → record_at m (place (k + j)) ≡ Item (place (k + j)) (place (k + j) + item_end))
    → Meets m (place (k + length rs)) tail
    → Meets m (place k) (item_records k rs ++ tail)
unfolding item_records
items_met m [] k tail h w = let e : k + 0 ≡ k = omega arith in rw e at w
items_met m (r ∷ rs) k tail h w =
    let e : k + 0 ≡ k = omega arith in
    let next : place k + item_end ≡ place (k + 1) = omega arith in
    let last : k + suc (length rs) ≡ k + 1 + length rs = omega arith in
    more m (place k) (Item (place k) (place k + item_end)) (item_records (k + 1) rs ++ tail) (rw e at (h 0 (omega arith)))
    (rw next (items_met m rs (k + 1) tail (λ j i. let o : k + suc j ≡ k + 1 + j = omega arith in rw o at (h (suc j) (omega arith))) (rw last at w)))

-- a message whose head stands
module _ (m : List ℕ) (e : head_stands lengths m ≡ true) where
  abbrev n : ℕ
  n = length (items_of lengths m)

  abbrev closing : List Record
  closing = closing_records (is_broken lengths m) n

  closing_met : (b : Bool) → is_broken lengths m ≡ b → Meets m (place n) (closing_records b n)
  unfolding closing_records
  closing_met true b = (places.at_break m e b, refl)
  closing_met false b = (places.at_foot m e b, (places.at_end m n (places.foot_stands_lem m e b), refl))

  after_head_met : Meets m (place 0) (item_records 0 (items_of lengths m) ++ closing)
  after_head_met =
      let all : 0 + n ≡ n = omega arith in
      items_met m (items_of lengths m) 0 closing (λ j h. let o : 0 + j ≡ j = omega arith in rw o (places.at_item m e j h).0)
      (rw all (closing_met (is_broken lengths m) refl))

  pub head_met : Meets m 0 (Head 0 head_end ∷ (item_records 0 (items_of lengths m) ++ closing))
  head_met = more m 0 (Head 0 head_end) (item_records 0 (items_of lengths m) ++ closing) (places.at_head m e) after_head_met

no_head : (m : List ℕ) → head_stands lengths m ≡ false → record_at m 0 ≡ Break
unfolding record_at
no_head m e = rw e

-- a walk from the start meets the records of the cut
pub records_met : (m : List ℕ) → Meets m 0 (records_of m)
unfolding records_of
records_met m = go (head_stands lengths m) refl
  where
    is : List (List ℕ)
    is = items_of lengths m

    go : (b : Bool) → head_stands lengths m ≡ b
        → Meets m 0 (cond b (Head 0 head_end ∷ (item_records 0 is ++ closing_records (is_broken lengths m) (length is))) (Break ∷ []))
    go true e = head_met m e
    go false e = (no_head m e, refl)

-- after k steps it meets the k-th
pub at_kth : (m : List ℕ) (k : ℕ) → record_at m (gone_on m 0 k) ≡ kth (records_of m) k
at_kth m k = after_steps m (records_of m) 0 (records_met m) k
