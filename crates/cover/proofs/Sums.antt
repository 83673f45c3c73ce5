-- Sums counted up to the limit compare with a foot's fields as the exact ones do.
-- Assumes nothing.
use mathlib.Core.Path.{◌≡◌, refl, sym, ap, ◌∙◌}
use mathlib.Core.Bool.{Bool, true, false, cond}
use mathlib.Core.List.{List, [], ◌∷◌}
use Prim.Native.Nat.{ℕ, ◌+◌, ◌*◌, ◌^◌, ◌≤◌, ◌<◌, min}
use native.Mathlib.Nat.{pow-le-pow_right, zero-add}
use native.Mathlib.Omega.{arith}
use lib.Dec.{leb, eqb, lit<, lit≤}
use lib.ListN.{length, take, drop, length-append}
use denote.Ref.{Bor}
use Rattle.std.specs.Prelude.{Some, None}
use Rattle.std.specs.Slice.Iter.{chunks_exact_rest, chunks_exact_size, chunks_exact_steps}
use Rattle.std.specs.declared.slice.ChunksExact.{ChunksExact}
use borrow.Author.Tests.{leb-true, leb-false, le-leb, lt-leb, ne_eqb}
use Rattle.base.proofs.Chunks.{turn_on, turn_ends}
use Rattle.digits.specs.Digits.{number_of}
use Rattle.digits.proofs.Value.{number_lt, long}
use Rattle.frame.specs.declared.Totals.{Totals}
use Rattle.answers.specs.Fedjel.{items_in}
use Rattle.cover.specs.Foot.{is_type, amount_of, count_of, sum_of}
use Rattle.cover.specs.Sums.{limit, capped, totals_in, totals_to}

-- a field stands for less than ten to the sixteenth, however long it is
pub number_small : (s : List ℕ) → number_of s < 10 ^ 16
number_small s = go (leb (length s) 16) refl
  where
    go : (b : Bool) → leb (length s) 16 ≡ b → number_of s < 10 ^ 16
    go true e =
        let p : 10 ^ length s ≤ 10 ^ 16 = pow-le-pow_right (lit< tt) (leb-true (length s) 16 e) in
        omega (arith, p, number_lt s)
    go false e =
        let z : 0 ≡ number_of s = long s (leb-false (length s) 16 e) in
        omega (arith, z)

pub capped_under : (n : ℕ) → n ≤ limit → capped n ≡ n
unfolding capped
capped_under n h = simp (le-leb n limit h)

pub capped_over : (n : ℕ) → limit < n → capped n ≡ limit
unfolding capped
capped_over n h = simp (lt-leb n limit h)

pub capped_min : (n : ℕ) → min n limit ≡ capped n
unfolding capped
capped_min n = go (leb n limit) refl
  where
    go : (b : Bool) → leb n limit ≡ b → min n limit ≡ cond b n limit
    go true e = omega (arith, leb-true n limit e)
    go false e = omega (arith, leb-false n limit e)

-- which of the two it is
pub record Under (n : ℕ) : Type 0 where
  pub low : n ≤ limit
  pub is : capped n ≡ n

pub record Above (n : ℕ) : Type 0 where
  pub high : limit < n
  pub is : capped n ≡ limit

by_limit : {A : Type 0} (n : ℕ) → (Under n → A) → (Above n → A) → A
by_limit {A} n f g = go (leb n limit) refl
  where
    go : (b : Bool) → leb n limit ≡ b → A
    go true e =
        let h = leb-true n limit e in
        f (record { low = h; is = capped_under n h })
    go false e =
        let h = leb-false n limit e in
        g (record { high = h; is = capped_over n h })

pub capped_low : (n : ℕ) → capped n ≤ limit
capped_low n = by_limit n (λ u. omega (arith, u.low, u.is)) (λ a. omega (arith, a.is))

-- the sum of counted totals is no larger
pub totals_low : (t : ℕ) (its : List (List ℕ)) {r : Totals} → r ≡ totals_to t its → r.sum ≤ limit
unfolding totals_to
totals_low t its {r} e =
    let s : r.sum ≡ capped (sum_of t its) = ap (λ (x : Totals). x.sum) e in
    omega (arith, s, capped_low (sum_of t its))

-- what is counted so far, with what is left
capped_on : (a b r : ℕ) → capped (capped (a + b) + r) ≡ capped (a + (b + r))
capped_on a b r = by_limit (a + b) under above
  where
    under : Under (a + b) → capped (capped (a + b) + r) ≡ capped (a + (b + r))
    under u =
        let e : a + b + r ≡ a + (b + r) = omega arith in
        ap (λ (n : ℕ). capped (n + r)) u.is ∙ ap capped e

    above : Above (a + b) → capped (capped (a + b) + r) ≡ capped (a + (b + r))
    above u =
        let high : capped (a + (b + r)) ≡ limit = capped_over (a + (b + r)) (omega (arith, u.high)) in
        let low : capped (limit + r) ≡ limit = by_limit (limit + r) (λ v. v.is ∙ omega (arith, v.low)) (λ v. v.is) in
        ap (λ (n : ℕ). capped (n + r)) u.is ∙ low ∙ sym high

-- a number below the limit is the counted sum if it is the sum
pub as_counted : (v s : ℕ) → v < limit → eqb v (capped s) ≡ eqb v s
as_counted v s h =
    by_limit s
    (λ u. ap (eqb v) u.is)
    (λ u. ap (eqb v) u.is ∙ ne_eqb v limit (λ e. omega (arith, e, h)) ∙ sym (ne_eqb v s (λ e. omega (arith, e, h, u.high))))

-- so with two
pub as_counted_both : (v s t : ℕ) → v < limit → eqb v (capped s + capped t) ≡ eqb v (s + t)
as_counted_both v s t h = by_limit s first (λ u. (far u).0 ∙ sym (far u).1)
  where
    far : Above s → (eqb v (capped s + capped t) ≡ false) × (eqb v (s + t) ≡ false)
    far u = (ne_eqb v (capped s + capped t) (λ e. omega (arith, e, h, u.is)), ne_eqb v (s + t) (λ e. omega (arith, e, h, u.high)))

    first : Under s → eqb v (capped s + capped t) ≡ eqb v (s + t)
    first u =
        by_limit t
        (λ w. ap (λ (n : ℕ). eqb v (n + capped t)) u.is ∙ ap (λ (n : ℕ). eqb v (s + n)) w.is)
        (λ w. ne_eqb v (capped s + capped t) (λ e. omega (arith, e, h, w.is)) ∙ sym (ne_eqb v (s + t) (λ e. omega (arith, e, h, w.high))))

-- the walk over the items: what is counted so far, with the items that are left, is the whole
module _ (t : ℕ) (b : List ℕ) where
  pub record Summed (count sum : ℕ) (s : ChunksExact ℕ) : Type 0 where
    pub size : chunks_exact_size s ≡ 72
    pub few : count * 72 + length (chunks_exact_rest s) ≤ length b
    pub small : sum ≤ limit
    pub counted : count + count_of t (items_in (chunks_exact_rest s)) ≡ count_of t (items_in b)
    pub summed : capped (sum + sum_of t (items_in (chunks_exact_rest s))) ≡ capped (sum_of t (items_in b))

  pub none : {s : ChunksExact ℕ} → chunks_exact_rest s ≡ b → chunks_exact_size s ≡ 72 → Summed 0 0 s
  none {s} r e =
      record {
        size = e;
        few = omega (arith, ap length r);
        small = lit≤ tt;
        counted = zero-add (count_of t (items_in (chunks_exact_rest s))) ∙ ap (λ (x : List ℕ). count_of t (items_in x)) r;
        summed = ap capped (zero-add (sum_of t (items_in (chunks_exact_rest s))) ∙ ap (λ (x : List ℕ). sum_of t (items_in x)) r);
      }

  module _ {count sum : ℕ} {s : ChunksExact ℕ} (w : Summed count sum s) (u : ChunksExact ℕ) where
    pub all_summed : chunks_exact_steps s None u → {r : Totals} → r ≡ record { count = count; sum = sum } → r ≡ totals_to t (items_in b)
    unfolding totals_to
    all_summed k e =
        let d : items_in (chunks_exact_rest s) ≡ [] = turn_ends 72 70 (lit≤ tt) (omega arith) s u w.size k in
        let c : count + 0 ≡ count_of t (items_in b) = ap (λ (x : List (List ℕ)). count + count_of t x) (sym d) ∙ w.counted in
        let s : capped (sum + 0) ≡ capped (sum_of t (items_in b)) = ap (λ (x : List (List ℕ)). capped (sum + sum_of t x)) (sym d) ∙ w.summed in
        let c' : count ≡ count_of t (items_in b) = omega (arith, c) in
        let z : sum + 0 ≡ sum = omega arith in
        let s' : sum ≡ capped (sum_of t (items_in b)) = sym (capped_under sum w.small) ∙ ap capped (sym z) ∙ s in
        e ∙ ap (λ (x : ℕ). record { count = x; sum = sum }) c' ∙ ap (λ (x : ℕ). record { count = count_of t (items_in b); sum = x }) s'

    module _ (x : Bor (List ℕ)) (k : chunks_exact_steps s (Some x) u) {it : List ℕ} (front : it ≡ take 70 x.now) {r : Totals}
        (e : r ≡ totals_in t it) where
      one_at_most : r.count ≤ 1
      unfolding totals_in
      one_at_most = go (is_type t it) (ap (λ (x : Totals). x.count) e)
        where
          go : (y : Bool) → r.count ≡ cond y 1 0 → r.count ≤ 1
          go true q = omega (arith, q)
          go false q = omega (arith, q)

      pub item_small : r.sum ≤ limit
      unfolding totals_in amount_of
      item_small = go (is_type t it) (ap (λ (x : Totals). x.sum) e)
        where
          go : (y : Bool) → r.sum ≡ cond y (number_of (take 16 (drop 51 it))) 0 → r.sum ≤ limit
          go true q = omega (arith, q, number_small (take 16 (drop 51 it)))
          go false q = omega (arith, q)

      -- the items counted are no more than the bytes have
      pub few_on : (count + r.count) * 72 + length (chunks_exact_rest u) ≤ length b
      few_on =
          let l : length (chunks_exact_rest s) ≡ 72 + length (chunks_exact_rest u) =
          ap length k.1.0 ∙ length-append x.now (chunks_exact_rest u) ∙ ap (λ (i : ℕ). i + length (chunks_exact_rest u)) (k.1.1 ∙ w.size) in
          omega (arith, l, one_at_most, w.few)

      pub summed_on : {v : ℕ} → v ≡ capped (sum + r.sum) → Summed (count + r.count) v u
      unfolding totals_in
      summed_on {v} f =
          let next = turn_on 72 70 (lit≤ tt) (omega arith) s u w.size x k in
          let rest = items_in (chunks_exact_rest u) in
          let its : it ∷ rest ≡ items_in (chunks_exact_rest s) = ap (λ (y : List ℕ). y ∷ rest) front ∙ sym next.1 in
          let c : count + (r.count + count_of t rest) ≡ count_of t (items_in b) =
          ap (λ (x : Totals). count + (x.count + count_of t rest)) e ∙ ap (λ (x : List (List ℕ)). count + count_of t x) its ∙ w.counted in
          let m : capped (sum + (r.sum + sum_of t rest)) ≡ capped (sum_of t (items_in b)) =
          ap (λ (x : Totals). capped (sum + (x.sum + sum_of t rest))) e ∙ ap (λ (x : List (List ℕ)). capped (sum + sum_of t x)) its
          ∙ w.summed in
          record {
            size = next.0;
            few = few_on;
            small = omega (arith, f, capped_low (sum + r.sum));
            counted = omega (arith, c);
            summed = ap (λ (x : ℕ). capped (x + sum_of t rest)) f ∙ capped_on sum r.sum (sum_of t rest) ∙ m;
          }
