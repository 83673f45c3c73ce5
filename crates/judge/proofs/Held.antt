-- The bytes held with zeros after them, and the bounds of a record's length.
-- Assumes nothing.
use mathlib.Core.Path.{◌≡◌, refl, sym, ap, ◌∙◌}
use mathlib.Core.Bool.{Bool, true, false, cond, ◌&&◌, false≢true}
use mathlib.Core.List.{List, [], ◌∷◌, ◌++◌, append-nil}
use Prim.Native.Nat.{ℕ, suc, ◌+◌, ◌-◌, ◌≤◌, ◌<◌}
use native.Mathlib.Omega.{arith}
use native.Mathlib.Numerals.{add-one}
use lib.ListN.{length, take, drop, set, replicate, length-append}
use lib.Seq.{length-take-le, take_at, take-suc-set, take_all, append_snoc}
use lib.Dec.{leb, eqb}
use borrow.Author.Tests.{leb-true, eq-eqb, ne_eqb}
use Rattle.base.specs.Bytes.{over}
use Rattle.calendar.specs.Calendar.{is_date}
use Rattle.frame.specs.declared.Tally.{Tally}
use Rattle.frame.specs.Records.{head_end, item_end, foot_end, is_foot}
use Rattle.frame.specs.Machine.{size, closing}
use Rattle.judge.specs.Session.{most, longest, pad, tally_in_range, in_range}
use Rattle.judge.specs.declared.Session.{Session}

pub take_pad : (h : List ℕ) (n : ℕ) → length h ≡ n → take n (pad h) ≡ h
unfolding pad
take_pad h n e = take_at h (replicate (longest - length h) 0) n e

pub pad_none : replicate longest 0 ≡ pad []
unfolding pad
pad_none = refl

-- a zero at the end of what is held is one of the zeros after it
pad_zero : (h : List ℕ) → length h < longest → pad (h ++ (0 ∷ [])) ≡ pad h
unfolding pad
pad_zero h l =
    let e : longest - length h ≡ suc (longest - length (h ++ (0 ∷ []))) = omega (arith, length-append h (0 ∷ [])) in
    rw e (append_snoc h 0 (replicate (longest - length (h ++ (0 ∷ []))) 0))

-- bytes put after the first n, with what stands before them
pub over_front : (h : List ℕ) (n : ℕ) (y : List ℕ) → n ≤ length h → take (n + length y) (over h n y) ≡ take n h ++ y
unfolding over
over_front h n y l =
    take_at (take n h ++ y) (drop (n + length y) h) (n + length y) (length-append (take n h) y ∙ ap (λ (m : ℕ). m + length y) (length-take-le n h l))

-- zeros from a place on, one after the other
pub clear_more : (h : List ℕ) (i : ℕ) → length h ≡ longest → i < longest → pad (take (i + 1) (set h i 0)) ≡ pad (take i h)
clear_more h i l m =
    let k : length (take i h) ≡ i = length-take-le i h (omega arith) in
    ap pad (ap (λ (j : ℕ). take j (set h i 0)) (add-one i) ∙ take-suc-set h i 0 (omega arith)) ∙ pad_zero (take i h) (omega arith)

pub clear_all : (h : List ℕ) (i : ℕ) → length h ≡ longest → longest ≤ i → h ≡ pad (take i h)
unfolding pad
clear_all h i l m = rw (take_all i h (omega arith), l) (sym (append-nil h))

-- the length, with its ending, of the record begun
module _ (p : ℕ) (x : List ℕ) where
  pub size_head : p ≡ 0 → size p x ≡ head_end
  unfolding size
  size_head e = rw (eq-eqb p 0 e)

  pub size_foot : (p ≡ 0 → ⊥) → is_foot x ≡ true → size p x ≡ foot_end
  unfolding size
  size_foot q f = rw (ne_eqb p 0 q, f)

  pub size_item : (p ≡ 0 → ⊥) → is_foot x ≡ false → size p x ≡ longest
  unfolding size
  size_item q f = rw (ne_eqb p 0 q, f)

  -- the foot is the shortest, an item the longest
  pub size_least : 2 ≤ size p x
  unfolding size
  size_least = go (eqb p 0) (is_foot x)
    where
      go : (a b : Bool) → 2 ≤ cond a head_end (cond b foot_end item_end)
      go true b = omega arith
      go false true = omega arith
      go false false = omega arith

  pub size_most : size p x ≤ longest
  unfolding size
  size_most = go (eqb p 0) (is_foot x)
    where
      go : (a b : Bool) → cond a head_end (cond b foot_end item_end) ≤ longest
      go true b = omega arith
      go false true = omega arith
      go false false = omega arith

-- a session that is in range is at phase 4 at most
pub in_range_phase : (s : Session) → in_range s ≡ true → s.tally.phase ≤ 4
unfolding in_range tally_in_range
in_range_phase s e = leb-true s.tally.phase 4 (third (is_date s.day) (leb s.room most) (leb s.tally.phase 4) _ _ e)
  where
    third : (a b c d f : Bool) → (a && (b && ((c && d) && f))) ≡ true → c ≡ true
    third true true true d f e = refl
    third true true false d f e = absurd (false≢true e)
    third true false c d f e = absurd (false≢true e)
    third false b c d f e = absurd (false≢true e)

-- closing gives no refusal before an overflow
pub closing_early : (c : Tally) → (c.phase ≡ 4 → ⊥) → (closing c).refusal ≡ 0
unfolding closing
closing_early c p = rw (ne_eqb c.phase 4 p)
