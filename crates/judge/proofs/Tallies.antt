-- What the needs of a tally's functions ask, over plain values.
-- Assumes nothing.
use mathlib.Core.Path.{◌≡◌, refl, sym, ap, ◌∙◌}
use mathlib.Core.Bool.{Bool, true, false, cond, not, ◌&&◌, ◌||◌}
use mathlib.Core.List.{List, []}
use Prim.Native.Nat.{ℕ, ◌+◌, ◌*◌, ◌^◌, ◌≤◌, ◌<◌}
use native.Mathlib.Omega.{arith}
use lib.Dec.{leb}
use lib.ListN.{length, take, set}
use borrow.Author.Tests.{eq-eqb, ne_eqb, le-leb, lt-leb, lt-ltb, le-ltb}
use Rattle.lists.specs.Banks.{found_in}
use Rattle.lent.specs.Lent.{Lent}
use Rattle.frame.specs.declared.Found.{Found}
use Rattle.frame.specs.declared.Totals.{Totals}
use Rattle.frame.specs.declared.Tally.{Tally}
use Rattle.frame.specs.declared.Told.{Told}
use Rattle.frame.specs.declared.Closing.{Closing}
use Rattle.frame.specs.Records.{lengths, id_of, ended, is_foot}
use Rattle.frame.specs.Verdict.{Rules, is_accepted, blank}
use Rattle.frame.specs.Sound.{CanTell, most_code, most_amount, most_kind}
use Rattle.frame.specs.Machine.{phased, items, sum, earlier, more, numbers, closing}
use Rattle.frame.specs.Machine.{item_tally, item_counted, head_tally, head_read, item_read, foot_tally, foot_read, judged}
use Rattle.heads.specs.declared.HeadFound.{HeadFound}
use Rattle.heads.specs.Heads.{head_found}
use Rattle.kinds.specs.Codes.{rules, item_told, foot_code}
use Rattle.kinds.proofs.Bounds.{small}
use Rattle.judge.specs.Session.{state_with, tally_in_range}
use Rattle.judge.specs.Inner.{Ready, Countable, Summed, Read, ItemRead, FootRead}

-- the ranges, one test after the other
module _ (room : ℕ) (c : Tally) where
  pub phase_out : 4 < c.phase → false ≡ tally_in_range room c
  unfolding tally_in_range
  phase_out h = rw (lt-leb c.phase 4 h)

  module _ (p : c.phase ≤ 4) where
    pub told_out : most_kind c.told.barred < c.told.kind → false ≡ tally_in_range room c
    unfolding tally_in_range
    told_out h = rw (le-leb c.phase 4 p, lt-leb c.told.kind (most_kind c.told.barred) h)

    module _ (o : CanTell c.told) where
      pub code_out : most_code < c.code → false ≡ tally_in_range room c
      unfolding tally_in_range
      code_out h = rw (le-leb c.phase 4 p, le-leb c.told.kind (most_kind c.told.barred) o, lt-leb c.code most_code h)

      module _ (q : c.code ≤ most_code) where
        -- what is left to test
        left : Bool
        left =
            leb (items c) room
            && (leb c.accepted.sum (most_amount * c.accepted.count)
            && (leb c.refused.sum (most_amount * c.refused.count) && leb c.zeros c.accepted.count))

        marked : left ≡ tally_in_range room c
        unfolding left tally_in_range
        marked = rw (le-leb c.phase 4 p, le-leb c.told.kind (most_kind c.told.barred) o, le-leb c.code most_code q)

        pub items_out : room < items c → false ≡ tally_in_range room c
        unfolding left
        items_out h = rw (lt-leb (items c) room h) at marked

        module _ (i : items c ≤ room) where
          pub accepted_out : most_amount * c.accepted.count < c.accepted.sum → false ≡ tally_in_range room c
          unfolding left
          accepted_out h = rw (le-leb (items c) room i, lt-leb c.accepted.sum (most_amount * c.accepted.count) h) at marked

          module _ (a : c.accepted.sum ≤ most_amount * c.accepted.count) where
            pub refused_out : most_amount * c.refused.count < c.refused.sum → false ≡ tally_in_range room c
            unfolding left
            refused_out h =
                rw (
                  le-leb (items c) room i,
                  le-leb c.accepted.sum (most_amount * c.accepted.count) a,
                  lt-leb c.refused.sum (most_amount * c.refused.count) h,
                ) at marked

            pub all_in : c.refused.sum ≤ most_amount * c.refused.count → leb c.zeros c.accepted.count ≡ tally_in_range room c
            unfolding left
            all_in h =
                rw (
                  le-leb (items c) room i,
                  le-leb c.accepted.sum (most_amount * c.accepted.count) a,
                  le-leb c.refused.sum (most_amount * c.refused.count) h,
                ) at marked

-- closing, by the phase, the letter and the code
module _ (s : Tally) where
  module _ (k : Closing) where
    pub close_broken : s.phase ≤ 3 → (s.phase ≡ 2 → ⊥) → k ≡ blank s.told.kind 26 s.id → k ≡ (closing s).closing
    unfolding closing
    close_broken h e q = rw (ne_eqb s.phase 4 (λ e. omega arith), ne_eqb s.phase 2 e) q

    pub close_letter : s.phase ≡ 2 → s.letter ≡ true → k ≡ blank s.told.kind 36 s.id → k ≡ (closing s).closing
    unfolding closing
    close_letter p l q = rw (p, l) q

    pub close_fault : s.phase ≡ 2 → s.letter ≡ false → (s.code ≡ 0 → ⊥) → k ≡ blank s.told.kind s.code s.id → k ≡ (closing s).closing
    unfolding closing
    close_fault p l d q = rw (p, l, ne_eqb s.code 0 d) q

  pub close_right : s.phase ≡ 2 → s.letter ≡ false → s.code ≡ 0 → numbers s ≡ (closing s).closing
  unfolding closing
  close_right p l d = rw (p, l, d)

-- a head is read
pub head_read_lem : (l : Lent) (r : List ℕ) (s : Tally) (f : HeadFound) (k : Told) (i : List ℕ)
    → f ≡ head_found l.day (found_in l.lists.banks) l.lists.known r → k ≡ (rules l).tells r → i ≡ id_of r
    → ◌≡◌ {A = Tally} (record {
      phase = 1;
      told = k;
      letter = f.letter;
      code = f.code;
      accepted = s.accepted;
      refused = s.refused;
      zeros = s.zeros;
      id = i;
    })
    (head_tally (rules l) s r)
unfolding head_tally head_found
head_read_lem l r s f k i p o q = rw (p, o, q)

-- what is found in an item is counted
pub item_counted_lem : (s : Tally) (f : Found) (d : ℕ) (a b : Totals) (z : ℕ) → d ≡ earlier s.code f.fault
    → a ≡ more (is_accepted f) f.amount s.accepted → b ≡ more (not (is_accepted f)) f.amount s.refused
    → z ≡ s.zeros + cond (is_accepted f && f.zero) 1 0
    → ◌≡◌ {A = Tally} (record {
      phase = 1;
      told = s.told;
      letter = s.letter || f.letter;
      code = d;
      accepted = a;
      refused = b;
      zeros = z;
      id = s.id;
    })
    (item_tally s f)
unfolding item_tally
item_counted_lem s f d a b z p q r w = rw (p, q, r, w)

-- a foot is read
module _ (s : Tally) (r : List ℕ) where
  pub foot_first : items s ≡ 0 → (n : Tally) → n ≡ phased 3 s → FootRead s r n
  unfolding foot_tally
  foot_first h n q = record { tally = λ l. rw (eq-eqb (items s) 0 h) q }

  pub foot_read_lem : (items s ≡ 0 → ⊥) → (k d : ℕ) → d ≡ foot_code (items s) (sum s) r → k ≡ earlier s.code d
      → FootRead s r
      (record {
        phase = 2;
        told = s.told;
        letter = s.letter;
        code = k;
        accepted = s.accepted;
        refused = s.refused;
        zeros = s.zeros;
        id = s.id;
      })
  unfolding foot_tally
  foot_read_lem h k d p q = record { tally = λ l. rw (ne_eqb (items s) 0 h, ← p, q) }

-- an item is read
module _ (e : ℕ) (banks : List ℕ) (s n : Tally) (t r : List ℕ) where
  pub item_read_lem : items s < length t → (f : Found) → f ≡ item_told s.told e (found_in banks) (items s + 1) r → n ≡ item_tally s f
      → ItemRead e banks s t r n (set t (items s) f.code)
  unfolding item_read item_counted
  item_read_lem h f p q =
      record {
        reads = λ l d b.
            let g : f ≡ item_told s.told l.day (found_in l.lists.banks) (items s + 1) r =
            p ∙ sym (λ i. item_told s.told (d i) (found_in (b i)) (items s + 1) r) in
            record {
              tally = rw (lt-ltb (items s) (length t) h) (q ∙ ap (item_tally s) g);
              bytes = rw (lt-ltb (items s) (length t) h) (ap (λ (x : Found). set t (items s) x.code) g);
            };
      }

  pub item_over : length t ≤ items s → n ≡ phased 4 s → ItemRead e banks s t r n t
  unfolding item_read
  item_over h q =
      record {
        reads = λ l d b. record { tally = rw (le-ltb (items s) (length t) h) q; bytes = rw (le-ltb (items s) (length t) h) };
      }

-- what is found in an item can be counted, where the tally is ready
pub countable : (s : Tally) (t : List ℕ) (day : ℕ) (banks : List ℕ) (k : ℕ) (r : List ℕ) (f : Found) → Ready s t
    → f ≡ item_told s.told day (found_in banks) k r → Countable s f
countable s t day banks k r f y e =
    let a : f.amount < 10 ^ 10 = rw e (small s.told.kind day (found_in banks) k r).amount in
    record {
      accepted = omega (arith, y.items, y.most);
      refused = omega (arith, y.items, y.most);
      accepted_sum = y.accepted;
      refused_sum = y.refused;
      zeros = y.zeros;
      amount = omega arith;
    }

-- so can the items of a tally that is ready be summed
pub summed : (s : Tally) (t : List ℕ) → Ready s t → Summed s
summed s t y = record { items = omega (arith, y.items, y.most); sum = omega (arith, y.items, y.most, y.accepted, y.refused) }

-- a record is judged, by its kind and its ending
module _ (l : Lent) (t x : List ℕ) (s n : Tally) where
  abbrev R : Rules
  R = rules l

  pub judge_head : s.phase ≡ 0 → ended lengths.head x ≡ true → n ≡ head_tally R s (take lengths.head x)
      → Read (judged R (state_with s [] t) x) n t
  unfolding judged head_read
  judge_head p d q = rw (eq-eqb s.phase 0 p, d) (record { tally = q; bytes = refl })

  pub judge_headless : s.phase ≡ 0 → ended lengths.head x ≡ false → n ≡ phased 3 s → Read (judged R (state_with s [] t) x) n t
  unfolding judged
  judge_headless p d q = rw (eq-eqb s.phase 0 p, d) (record { tally = q; bytes = refl })

  module _ (p : s.phase ≡ 0 → ⊥) where
    pub judge_footless : is_foot x ≡ true → ended lengths.foot x ≡ false → n ≡ phased 3 s → Read (judged R (state_with s [] t) x) n t
    unfolding judged
    judge_footless f d q = rw (ne_eqb s.phase 0 p, f, d) (record { tally = q; bytes = refl })

    pub judge_itemless : is_foot x ≡ false → ended lengths.item x ≡ false → n ≡ phased 3 s → Read (judged R (state_with s [] t) x) n t
    unfolding judged
    judge_itemless f d q = rw (ne_eqb s.phase 0 p, f, d) (record { tally = q; bytes = refl })

    pub judge_item : {t' : List ℕ} → is_foot x ≡ false → ended lengths.item x ≡ true
        → ItemRead l.day l.lists.banks s t (take lengths.item x) n t' → Read (judged R (state_with s [] t) x) n t'
    unfolding judged
    judge_item f d q = rw (ne_eqb s.phase 0 p, f, d) (q.reads l refl refl)

    pub judge_foot : is_foot x ≡ true → ended lengths.foot x ≡ true → FootRead s (take lengths.foot x) n
        → Read (judged R (state_with s [] t) x) n t
    unfolding judged foot_read
    judge_foot f d q = rw (ne_eqb s.phase 0 p, f, d) (record { tally = q.tally l; bytes = refl })
