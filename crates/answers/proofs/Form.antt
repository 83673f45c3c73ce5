-- The form of a FEDJEL, test by test as the code asks, and its parts as code lends them.
-- Assumes nothing.
use mathlib.Core.Path.{◌≡◌, refl, sym, ap, ◌∙◌}
use mathlib.Core.Bool.{Bool, true, false, ◌&&◌}
use mathlib.Core.List.{List, [], ◌∷◌}
use Prim.Native.Nat.{ℕ, ◌+◌, ◌-◌, ◌*◌, ◌/◌, ◌%◌, ◌≤◌, ◌<◌}
use native.Mathlib.Omega.{arith}
use lib.Dec.{lit<, lit≤}
use lib.ListN.{length, get_or, take, drop, length-drop}
use lib.Seq.{get_or-take, get_or-drop, length-take-le}
use borrow.Author.Tests.{le-leb, lt-leb, eq-eqb, ne_eqb}
use Rattle.base.specs.Groups.{groups, all}
use Rattle.std.specs.Simd.{first_chunks}
use Rattle.requests.proofs.Found.{arrays}
use Rattle.base.proofs.Chunks.{cut_groups}
use Rattle.base.proofs.Groups.{group_at}
use Rattle.base.proofs.Parts.{tail}
use Rattle.frame.specs.Records.{ended}
use Rattle.answers.specs.Fedjel.{item_count, item_bytes, items_in, items_of, foot_ended, is_fedjel}
use Rattle.answers.specs.Answers.{answer_of}

-- the items' bytes are whole items, and these are the message's
pub items_long : (m : List ℕ) → length (item_bytes m) ≡ item_count m * 72
items_long m = length-take-le (item_count m * 72) (drop 34 m) (omega (arith, length-drop 34 m))

pub counted : (m : List ℕ) → length (item_bytes m) / 72 ≡ item_count m
counted m = omega (arith, items_long m)

pub items : (m : List ℕ) → items_in (item_bytes m) ≡ items_of m
items m =
    ap (λ (n : ℕ). groups 72 70 n (item_bytes m)) (counted m) ∙ cut_groups 72 70 (item_count m) (drop 34 m) (lit≤ tt)

pub items_ended : (m : List ℕ) → groups 72 72 (length (item_bytes m) / 72) (item_bytes m) ≡ groups 72 72 (item_count m) (drop 34 m)
items_ended m =
    ap (λ (n : ℕ). groups 72 72 n (item_bytes m)) (counted m) ∙ cut_groups 72 72 (item_count m) (drop 34 m) (lit≤ tt)

-- the foot and its ending, by what was lent and counted
pub foot : (m : List ℕ) {n : ℕ} → n ≡ item_count m → take (length m - (34 + n * 72)) (drop (34 + n * 72) m) ≡ foot_ended m
foot m {n} e = tail m (34 + n * 72) ∙ ap (λ (i : ℕ). drop (34 + i * 72) m) e

-- the two bytes of an item's type
pub type_bytes : (it : List ℕ) → 2 ≤ length it → take 2 it ≡ get_or it 0 0 ∷ get_or it 1 0 ∷ []
type_bytes [] h = absurd (omega arith)
type_bytes (x ∷ []) h = absurd (omega arith)
type_bytes (x ∷ y ∷ its) h = refl

-- an item's answer, where it stands in the message
pub answer_lent : (m : List ℕ) (k : ℕ) → k < item_count m → get_or m (34 + k * 72 + 67) 0 ≡ answer_of (get_or (items_of m) k [])
answer_lent m k h =
    let p : 34 + k * 72 + 67 ≡ 34 + (k * 72 + 67) = omega arith in
    ap (λ (i : ℕ). get_or m i 0) p
    ∙ sym (get_or-drop 34 m (k * 72 + 67) 0)
    ∙ sym (get_or-drop (k * 72) (drop 34 m) 67 0)
    ∙ sym (get_or-take 70 (drop (k * 72) (drop 34 m)) 67 0 (lit< tt))
    ∙ ap answer_of (sym (group_at 72 70 (item_count m) (drop 34 m) k h))

-- and in the item, as one of the arrays that the items' bytes are cut into
pub answer_in : (m : List ℕ) {b : List ℕ} → b ≡ item_bytes m → {is : List (List ℕ)} → is ≡ first_chunks 72 (length b / 72) b
    → (k : ℕ) → k < item_count m → get_or (get_or is k []) 67 0 ≡ answer_of (get_or (items_of m) k [])
answer_in m {b} e {is} q k h =
    let n : length b / 72 ≡ item_count m = ap (λ (x : List ℕ). length x / 72) e ∙ counted m in
    let i : k < length b / 72 = omega (arith, n, h) in
    let x = drop (k * 72) b in
    ap (λ (y : List (List ℕ)). get_or (get_or y k []) 67 0) (q ∙ arrays 72 (length b / 72) b)
    ∙ ap (λ (y : List ℕ). get_or y 67 0) (group_at 72 72 (length b / 72) b k i)
    ∙ get_or-take 72 x 67 0 (lit< tt)
    ∙ sym (get_or-take 70 x 67 0 (lit< tt))
    ∙ ap answer_of (sym (group_at 72 70 (length b / 72) b k i))
    ∙ ap (λ (y : List (List ℕ)). answer_of (get_or y k [])) (ap items_in e ∙ items m)

module _ (m : List ℕ) where
  pub short : length m < 150 → false ≡ is_fedjel m
  unfolding is_fedjel
  short h = simp (lt-leb 150 (length m) h)

  pub uneven : 150 ≤ length m → ((length m - 78) % 72 ≡ 0 → ⊥) → false ≡ is_fedjel m
  unfolding is_fedjel
  uneven h f = simp (le-leb 150 (length m) h, ne_eqb ((length m - 78) % 72) 0 f)

  -- by the endings of the records, as code looks at them
  module _ (long : 150 ≤ length m) (even : (length m - 78) % 72 ≡ 0) {h : Bool} (head : h ≡ ended 32 m) where
    by_endings : h && (all (ended 70) (groups 72 72 (length (item_bytes m) / 72) (item_bytes m)) && ended 42 (foot_ended m)) ≡ is_fedjel m
    unfolding is_fedjel
    by_endings =
        ap (λ (b : Bool). b && (all (ended 70) (groups 72 72 (length (item_bytes m) / 72) (item_bytes m)) && ended 42 (foot_ended m))) head
        ∙ ap (λ (x : List (List ℕ)). ended 32 m && (all (ended 70) x && ended 42 (foot_ended m))) (items_ended m)
        ∙ simp (le-leb 150 (length m) long, eq-eqb ((length m - 78) % 72) 0 even)

    pub no_head : h ≡ false → h ≡ is_fedjel m
    no_head f = f ∙ simp f at by_endings

    module _ (t : h ≡ true) {b : List ℕ} (is : b ≡ item_bytes m) {a : Bool} (items : a ≡ all (ended 70) (groups 72 72 (length b / 72) b)) where
      by_items : a && ended 42 (foot_ended m) ≡ is_fedjel m
      by_items =
          ap (λ (x : Bool). x && ended 42 (foot_ended m))
          (items ∙ ap (λ (x : List ℕ). all (ended 70) (groups 72 72 (length x / 72) x)) is)
          ∙ simp t at by_endings

      pub no_item : a ≡ false → a ≡ is_fedjel m
      no_item f = f ∙ simp f at by_items

      pub by_foot : a ≡ true → {e : Bool} → e ≡ ended 42 (foot_ended m) → e ≡ is_fedjel m
      by_foot f e = e ∙ simp f at by_items
