-- How reading ends: after the items that have a byte in the table, at an overflow, at the foot, at a break, without a head.
-- Assumes nothing.
use mathlib.Core.Path.{◌≡◌, refl, sym, ap, ◌∙◌}
use mathlib.Core.Bool.{Bool, true, false, cond, not, ◌&&◌, and-false}
use mathlib.Core.List.{List, [], ◌∷◌}
use Prim.Native.Nat.{ℕ, zero, suc, ◌+◌, ◌-◌, ◌≤◌, ◌<◌}
use native.Mathlib.Omega.{arith}
use lib.ListN.{length, take, drop, length-drop}
use lib.Seq.{length-take-le, take-length, get_or-take, take-take}
use lib.Dec.{leb, ltb, eqb}
use borrow.Author.Tests.{le-leb, lt-leb, leb-true, leb-false, eqb-true, eqb-false, eq-eqb, ne_eqb, lt-ltb, le-ltb, ltb-true, ltb-false, not-true}
use Rattle.base.proofs.Every.{both}
use Rattle.frame.specs.declared.Found.{Found}
use Rattle.frame.specs.declared.Told.{Told}
use Rattle.frame.specs.Records.{Sizes, lengths, no_id, ended, is_foot, item_stands, foot_stands, items_in, rest_after}
use Rattle.frame.specs.Verdict.{Rules, Verdict, blank, given, findings, message_code, identifier, told_by, verdict, table_after}
use Rattle.frame.specs.Machine.{State, fresh, at, items, size, head_read, item_tally, item_counted, item_read, foot_tally, foot_read, judged, run, closing}
use Rattle.frame.proofs.Pieces.{foot_front, run_kept, run_record, run_broken, run_overflown, run_after}
use Rattle.frame.proofs.Counting.{tallied, counted_items, counted_length}

-- the ending shows in the part that is taken
pub ended_front : (n : ℕ) (x : List ℕ) → n + 2 ≤ length x → ended n (take (n + 2) x) ≡ ended n x
unfolding ended
ended_front n x h =
    let l : length (take (n + 2) x) ≡ n + 2 = length-take-le (n + 2) x h in
    rw (
      l,
      get_or-take (n + 2) x n 0 (omega arith),
      get_or-take (n + 2) x (n + 1) 0 (omega arith),
      le-leb (n + 2) (n + 2) (omega arith),
      le-leb (n + 2) (length x) h,
    )

pub ended_long : (n : ℕ) (x : List ℕ) → ended n x ≡ true → n + 2 ≤ length x
unfolding ended
ended_long n x e = leb-true (n + 2) (length x) (both (leb (n + 2) (length x)) _ e).0

short_ended : (n : ℕ) (x : List ℕ) → length x < n + 2 → ended n x ≡ false
unfolding ended
short_ended n x h = rw (lt-leb (n + 2) (length x) h)

-- a state and the table that it ends with
pub record Ends (s : State) (v : Verdict) (t : List ℕ) : Type 0 where
  pub says : closing s.tally ≡ v
  pub bytes : s.table ≡ t

abbrev Z : Sizes
Z = lengths

-- no item stands where the items end
pub rest_no_item : (n : ℕ) (x : List ℕ) → length x ≤ n → item_stands Z (rest_after Z n x) ≡ false
unfolding rest_after
rest_no_item zero x l = rw (short_ended Z.item x (omega arith)) (and-false (not (is_foot x)))
rest_no_item (suc n) x l = go (item_stands Z x) refl (λ h. rest_no_item n (drop (Z.item + 2) x) h)
  where
    go : (b : Bool) → item_stands Z x ≡ b → (length (drop (Z.item + 2) x) ≤ n → item_stands Z (rest_after Z n (drop (Z.item + 2) x)) ≡ false)
        → item_stands Z (cond b (rest_after Z n (drop (Z.item + 2) x)) x) ≡ false
    go true g ih = ih (omega (arith, length-drop (Z.item + 2) x, ended_long Z.item x (both (not (is_foot x)) (ended Z.item x) g).1))
    go false g ih = g

-- the bytes left after an item are fewer
shorter : (n : ℕ) (x : List ℕ) → length x ≤ suc n → item_stands Z x ≡ true → length (drop (Z.item + 2) x) ≤ n
shorter n x l g = omega (arith, length-drop (Z.item + 2) x, ended_long Z.item x (both (not (is_foot x)) (ended Z.item x) g).1)

module _ (R : Rules) where
  -- a state that is neither at the foot nor overflown says 26
  open_says : (s : State) → s.tally.phase ≤ 1 → (h : List ℕ)
      → closing (at s.tally.phase h s).tally ≡ given (blank s.tally.told.kind 26 s.tally.id)
  unfolding closing
  open_says s p h = rw (ne_eqb s.tally.phase 4 (λ e. omega arith), ne_eqb s.tally.phase 2 (λ e. omega arith))

  broken_says : (s : State) → closing (at 3 [] s).tally ≡ given (blank s.tally.told.kind 26 s.tally.id)
  unfolding closing
  broken_says s = refl

  ends_kept : (s : State) (x : List ℕ) → s.tally.phase ≤ 1 → s.held ≡ [] → length x < size s.tally.phase x
      → Ends (run R s x) (given (blank s.tally.told.kind 26 s.tally.id)) s.table
  ends_kept s x p e l = rw (run_kept R s [] x p e l) (record { says = open_says s p x; bytes = refl })

  ends_broken : (s : State) (x : List ℕ) → Ends (run R (at 3 [] s) x) (given (blank s.tally.told.kind 26 s.tally.id)) s.table
  ends_broken s x = rw (run_broken R s x) (record { says = broken_says s; bytes = refl })

  -- after the head
  module _ (s : State) (p : s.tally.phase ≡ 1) (e : s.held ≡ []) where
    size_foot : (x : List ℕ) → is_foot x ≡ true → size s.tally.phase x ≡ Z.foot + 2
    unfolding size
    size_foot x f = rw (p, f)

    size_item : (x : List ℕ) → is_foot x ≡ false → size s.tally.phase x ≡ Z.item + 2
    unfolding size
    size_item x f = rw (p, f)

    judged_foot : (x : List ℕ) → is_foot x ≡ true → (c : Bool) → ended Z.foot x ≡ c → judged R s x ≡ cond c (foot_read R s (take Z.foot x)) (at 3 [] s)
    unfolding judged
    judged_foot x f c g = rw (p, f, g)

    judged_item : (x : List ℕ) → is_foot x ≡ false → (c : Bool) → ended Z.item x ≡ c → judged R s x ≡ cond c (item_read R s (take Z.item x)) (at 3 [] s)
    unfolding judged
    judged_item x f c g = rw (p, f, g)

    -- a record of the foot's length, and of an item's, at the front
    foot_first : (x : List ℕ) → is_foot x ≡ true → Z.foot + 2 ≤ length x → (c : Bool) → ended Z.foot x ≡ c
        → run R s x ≡ run R (cond c (foot_read R s (take Z.foot x)) (at 3 [] s)) (drop (Z.foot + 2) x)
    foot_first x f l c g =
        let n = Z.foot + 2 in
        let f' : is_foot (take n x) ≡ true = foot_front n x (omega arith) l ∙ f in
        let j = judged_foot (take n x) f' c (ended_front Z.foot x l ∙ g) in
        run_record R s x n (omega arith) e (sym (size_foot (take n x) f')) (omega arith) l
        ∙ ap (λ (q : State). run R q (drop n x)) (j ∙ ap (λ (r : List ℕ). cond c (foot_read R s r) (at 3 [] s)) (take-take Z.foot n x (omega arith)))

    item_first : (x : List ℕ) → is_foot x ≡ false → Z.item + 2 ≤ length x → (c : Bool) → ended Z.item x ≡ c
        → run R s x ≡ run R (cond c (item_read R s (take Z.item x)) (at 3 [] s)) (drop (Z.item + 2) x)
    item_first x f l c g =
        let n = Z.item + 2 in
        let f' : is_foot (take n x) ≡ false = foot_front n x (omega arith) l ∙ f in
        let j = judged_item (take n x) f' c (ended_front Z.item x l ∙ g) in
        run_record R s x n (omega arith) e (sym (size_item (take n x) f')) (omega arith) l
        ∙ ap (λ (q : State). run R q (drop n x)) (j ∙ ap (λ (r : List ℕ). cond c (item_read R s r) (at 3 [] s)) (take-take Z.item n x (omega arith)))

    -- the foot, with nothing or something after it
    foot_none : (r : List ℕ) → items s.tally ≡ 0 → foot_read R s r ≡ at 3 [] s
    unfolding foot_read foot_tally
    foot_none r q = rw (eq-eqb (items s.tally) 0 q)

    foot_some : (r : List ℕ) → (items s.tally ≡ 0 → ⊥)
        → ((foot_read R s r).tally.phase ≡ 2) × ((foot_read R s r).tally.id ≡ s.tally.id) × ((foot_read R s r).table ≡ s.table)
        × ((foot_read R s r).tally.told ≡ s.tally.told)
    unfolding foot_read foot_tally
    foot_some r q = rw (ne_eqb (items s.tally) 0 q) (refl, refl, refl, refl)

    abbrev FootEnds : List ℕ → List ℕ → Type 0
    FootEnds r y =
        Ends (run R (foot_read R s r) y)
        (cond (eqb (length y) 0 && ltb 0 (items s.tally)) (closing (foot_read R s r).tally) (given (blank s.tally.told.kind 26 s.tally.id)))
        s.table

    foot_broken : (r y : List ℕ) → items s.tally ≡ 0 → FootEnds r y
    foot_broken r y q = rw (foot_none r q, le-ltb 0 (items s.tally) (omega arith), and-false (eqb (length y) 0)) (ends_broken s y)

    foot_last : (r y : List ℕ) → (items s.tally ≡ 0 → ⊥) → FootEnds r y
    unfolding run
    foot_last r [] q = record { says = rw (lt-ltb 0 (items s.tally) (omega arith)); bytes = (foot_some r q).2 }
    foot_last r (b ∷ y) q =
        let f = foot_some r q in
        let a : run R (foot_read R s r) (b ∷ y) ≡ at 3 [] (foot_read R s r) = run_after R (foot_read R s r) b y f.0 in
        let z : eqb (suc (length y)) 0 ≡ false = ne_eqb (suc (length y)) 0 (λ e. omega arith) in
        record {
          says = rw z (ap (λ (q : State). closing q.tally) a ∙ broken_says (foot_read R s r) ∙ (λ i. given (blank (f.3 i).kind 26 (f.1 i))));
          bytes = ap (λ (q : State). q.table) a ∙ f.2;
        }

    foot_ends : (r y : List ℕ) → FootEnds r y
    foot_ends r y = go (eqb (items s.tally) 0) refl
      where
        go : (t : Bool) → eqb (items s.tally) 0 ≡ t → FootEnds r y
        go true q = foot_broken r y (eqb-true (items s.tally) 0 q)
        go false q = foot_last r y (eqb-false (items s.tally) 0 q)

    -- what is left after the items
    abbrev pub RestEnds : List ℕ → Type 0
    RestEnds y =
        Ends (run R s y)
        (cond (foot_stands Z y && ltb 0 (items s.tally)) (closing (foot_read R s (take Z.foot y)).tally)
        (given (blank s.tally.told.kind 26 s.tally.id))) s.table

    rest_foot : (y : List ℕ) → is_foot y ≡ true → RestEnds y
    rest_foot y f = go (ended Z.foot y) refl
      where
        whole : (b : Bool) → eqb (length y) (Z.foot + 2) ≡ b → Z.foot + 2 ≤ length y → eqb (length (drop (Z.foot + 2) y)) 0 ≡ b
        whole true u l = eq-eqb (length (drop (Z.foot + 2) y)) 0 (omega (arith, eqb-true (length y) (Z.foot + 2) u, length-drop (Z.foot + 2) y))
        whole false u l = ne_eqb (length (drop (Z.foot + 2) y)) 0 (λ q. eqb-false (length y) (Z.foot + 2) u (omega (arith, length-drop (Z.foot + 2) y)))

        long : (b : Bool) → leb (Z.foot + 2) (length y) ≡ b → ended Z.foot y ≡ false → RestEnds y
        long true u g = rw (foot_first y f (leb-true (Z.foot + 2) (length y) u) false g, f, g) (ends_broken s (drop (Z.foot + 2) y))
        long false u g = rw (f, g) (ends_kept s y (omega arith) e (omega (arith, leb-false (Z.foot + 2) (length y) u, size_foot y f)))

        go : (c : Bool) → ended Z.foot y ≡ c → RestEnds y
        go true g =
            let l = ended_long Z.foot y g in
            rw (foot_first y f l true g, f, g, ← (whole (eqb (length y) (Z.foot + 2)) refl l)) (foot_ends (take Z.foot y) (drop (Z.foot + 2) y))
        go false g = long (leb (Z.foot + 2) (length y)) refl g

    rest_none : (y : List ℕ) → is_foot y ≡ false → ended Z.item y ≡ false → RestEnds y
    rest_none y f g = go (leb (Z.item + 2) (length y)) refl
      where
        go : (b : Bool) → leb (Z.item + 2) (length y) ≡ b → RestEnds y
        go true u = rw (item_first y f (leb-true (Z.item + 2) (length y) u) false g, f) (ends_broken s (drop (Z.item + 2) y))
        go false u = rw f (ends_kept s y (omega arith) e (omega (arith, leb-false (Z.item + 2) (length y) u, size_item y f)))

    pub rest_ends : (y : List ℕ) → item_stands Z y ≡ false → RestEnds y
    rest_ends y g = go (is_foot y) refl
      where
        go : (b : Bool) → is_foot y ≡ b → RestEnds y
        go true f = rest_foot y f
        go false f = rest_none y f (simp f at g)

  -- an item is read where the table has a byte for it
  read_counted : (s : State) (r : List ℕ) → items s.tally < length s.table
      → item_read R s r ≡ item_counted s (R.item s.tally.told (items s.tally + 1) r)
  unfolding item_read
  read_counted s r h = rw (lt-ltb (items s.tally) (length s.table) h)

  read_overflown : (s : State) (r : List ℕ) → length s.table ≤ items s.tally → item_read R s r ≡ at 4 [] s
  unfolding item_read
  read_overflown s r h = rw (le-ltb (items s.tally) (length s.table) h)

  told_counted : (s : State) (f : Found) → (item_counted s f).tally.told ≡ s.tally.told
  unfolding item_counted item_tally
  told_counted s f = refl

  -- an item at the front
  item_at : (s : State) (x : List ℕ) → s.tally.phase ≡ 1 → s.held ≡ [] → item_stands Z x ≡ true
      → run R s x ≡ run R (item_read R s (take Z.item x)) (drop (Z.item + 2) x)
  item_at s x p e g =
      let h = both (not (is_foot x)) (ended Z.item x) g in
      item_first s p e x (not-true (is_foot x) h.0) (ended_long Z.item x h.1) true h.1

  counted_phase : (s : State) (f : Found) → (item_counted s f).tally.phase ≡ 1
  unfolding item_counted item_tally
  counted_phase s f = refl

  counted_held : (s : State) (f : Found) → (item_counted s f).held ≡ []
  unfolding item_counted item_tally
  counted_held s f = refl

  -- items for which there is room are counted
  pub run_items : (n : ℕ) (s : State) (x : List ℕ) → length x ≤ n → s.tally.phase ≡ 1 → s.held ≡ []
      → items s.tally + length (items_in Z n x) ≤ length s.table
      → run R s x ≡ run R (tallied s (findings R s.tally.told (items s.tally + 1) (items_in Z n x))) (rest_after Z n x)
  unfolding items_in rest_after tallied findings
  run_items zero s x l p e m = refl
  run_items (suc n) s x l p e m = go (item_stands Z x) refl m (λ s' h p e m. run_items n s' (drop (Z.item + 2) x) h p e m)
    where
      r : List ℕ
      r = take Z.item x

      y : List ℕ
      y = drop (Z.item + 2) x

      f : Found
      f = R.item s.tally.told (items s.tally + 1) r

      go : (b : Bool) → item_stands Z x ≡ b → items s.tally + length (cond b (r ∷ items_in Z n y) []) ≤ length s.table
          → ((s' : State) → length y ≤ n → s'.tally.phase ≡ 1 → s'.held ≡ [] → items s'.tally + length (items_in Z n y) ≤ length s'.table
          → run R s' y ≡ run R (tallied s' (findings R s'.tally.told (items s'.tally + 1) (items_in Z n y))) (rest_after Z n y))
          → run R s x ≡ run R (tallied s (findings R s.tally.told (items s.tally + 1) (cond b (r ∷ items_in Z n y) []))) (cond b (rest_after Z n y) x)
      go false g m ih = refl
      go true g m ih =
          let s' : State = item_counted s f in
          let i : items s'.tally ≡ items s.tally + 1 = counted_items s f in
          let u : length s'.table ≡ length s.table = counted_length s f in
          let c : item_read R s r ≡ s' = read_counted s r (omega arith) in
          let h = ih s' (shorter n x l g) (counted_phase s f) (counted_held s f) (omega arith) in
          item_at s x p e g
          ∙ ap (λ (q : State). run R q y) c
          ∙ h
          ∙ ap (λ (a : Told). run R (tallied s' (findings R a (items s'.tally + 1) (items_in Z n y))) (rest_after Z n y)) (told_counted s f)
          ∙ ap (λ (k : ℕ). run R (tallied s' (findings R s.tally.told (k + 1) (items_in Z n y))) (rest_after Z n y)) i

  -- with more items than the table has bytes, those that have one are counted, and judging stops
  pub run_over : (n : ℕ) (s : State) (x : List ℕ) → length x ≤ n → s.tally.phase ≡ 1 → s.held ≡ [] → items s.tally ≤ length s.table
      → length s.table < items s.tally + length (items_in Z n x)
      → run R s x ≡ at 4 [] (tallied s (findings R s.tally.told (items s.tally + 1) (take (length s.table - items s.tally) (items_in Z n x))))
  unfolding items_in tallied findings
  run_over zero s x l p e k m = absurd (omega arith)
  run_over (suc n) s x l p e k m = go (item_stands Z x) refl m (λ s' h p e k m. run_over n s' (drop (Z.item + 2) x) h p e k m)
    where
      r : List ℕ
      r = take Z.item x

      y : List ℕ
      y = drop (Z.item + 2) x

      f : Found
      f = R.item s.tally.told (items s.tally + 1) r

      go : (b : Bool) → item_stands Z x ≡ b → length s.table < items s.tally + length (cond b (r ∷ items_in Z n y) [])
          → ((s' : State) → length y ≤ n → s'.tally.phase ≡ 1 → s'.held ≡ [] → items s'.tally ≤ length s'.table
          → length s'.table < items s'.tally + length (items_in Z n y)
          → run R s' y
          ≡ at 4 [] (tallied s' (findings R s'.tally.told (items s'.tally + 1) (take (length s'.table - items s'.tally) (items_in Z n y)))))
          → run R s x
          ≡ at 4 [] (tallied s
          (findings R s.tally.told (items s.tally + 1) (take (length s.table - items s.tally) (cond b (r ∷ items_in Z n y) []))))
      go false g m ih = absurd (omega arith)
      go true g m ih = by_room (ltb (items s.tally) (length s.table)) refl
        where
          by_room : (c : Bool) → ltb (items s.tally) (length s.table) ≡ c
              → run R s x
              ≡ at 4 [] (tallied s (findings R s.tally.told (items s.tally + 1) (take (length s.table - items s.tally) (r ∷ items_in Z n y))))
          by_room true c =
              let s' : State = item_counted s f in
              let v = ltb-true (items s.tally) (length s.table) c in
              let i : items s'.tally ≡ items s.tally + 1 = counted_items s f in
              let u : length s'.table ≡ length s.table = counted_length s f in
              let d : item_read R s r ≡ s' = read_counted s r (omega arith) in
              let h = ih s' (shorter n x l g) (counted_phase s f) (counted_held s f) (omega arith) (omega arith) in
              let w : length s.table - items s.tally ≡ suc (length s.table - (items s.tally + 1)) = omega arith in
              let j : length s'.table - items s'.tally ≡ length s.table - (items s.tally + 1) = omega arith in
              item_at s x p e g
              ∙ ap (λ (q : State). run R q y) d
              ∙ h
              ∙ ap (λ (a : Told). at 4 [] (tallied s' (findings R a (items s'.tally + 1) (take (length s'.table - items s'.tally) (items_in Z n y)))))
              (told_counted s f)
              ∙ ap (λ (k : ℕ). at 4 [] (tallied s' (findings R s.tally.told (k + 1) (take (length s'.table - items s'.tally) (items_in Z n y))))) i
              ∙ ap (λ (q : ℕ). at 4 [] (tallied s' (findings R s.tally.told (items s.tally + 1 + 1) (take q (items_in Z n y))))) j
              ∙ ap (λ (q : ℕ). at 4 [] (tallied s (findings R s.tally.told (items s.tally + 1) (take q (r ∷ items_in Z n y))))) (sym w)
          by_room false c =
              let v = ltb-false (items s.tally) (length s.table) c in
              let d : item_read R s r ≡ at 4 [] s = read_overflown s r v in
              let w : length s.table - items s.tally ≡ 0 = omega arith in
              item_at s x p e g
              ∙ ap (λ (q : State). run R q y) d
              ∙ run_overflown R s y
              ∙ rw w

  -- without a head
  no_head : (t m : List ℕ) → ended Z.head m ≡ false → (verdict R t m ≡ given (blank 0 26 no_id)) × (table_after R t m ≡ t)
  unfolding verdict message_code identifier told_by table_after findings
  no_head t m e = (rw (e, le-ltb (length t) 0 (omega arith)), rw e (take-length t))

  size_head : (t x : List ℕ) → size (fresh t).tally.phase x ≡ Z.head + 2
  unfolding size
  size_head t x = refl

  judged_head : (t x : List ℕ) (c : Bool) → ended Z.head x ≡ c → judged R (fresh t) x ≡ cond c (head_read R (fresh t) (take Z.head x)) (at 3 [] (fresh t))
  unfolding judged
  judged_head t x c e = rw e

  -- a record of the head's length
  pub head_first : (t m : List ℕ) → Z.head + 2 ≤ length m → (c : Bool) → ended Z.head m ≡ c
      → run R (fresh t) m ≡ run R (cond c (head_read R (fresh t) (take Z.head m)) (at 3 [] (fresh t))) (drop (Z.head + 2) m)
  head_first t m l c e =
      let n = Z.head + 2 in
      let j = judged_head t (take n m) c (ended_front Z.head m l ∙ e) in
      run_record R (fresh t) m n (omega arith) refl (sym (size_head t (take n m))) (omega arith) l
      ∙ ap (λ (q : State). run R q (drop n m))
      (j ∙ ap (λ (r : List ℕ). cond c (head_read R (fresh t) r) (at 3 [] (fresh t))) (take-take Z.head n m (omega arith)))

  ends_at : (s : State) (v w : Verdict) (t u : List ℕ) → v ≡ w → t ≡ u → Ends s v t → Ends s w u
  ends_at s v w t u p q k = record { says = k.says ∙ p; bytes = k.bytes ∙ q }

  pub headless : (t m : List ℕ) → ended Z.head m ≡ false → Ends (run R (fresh t) m) (verdict R t m) (table_after R t m)
  headless t m e = go (leb (Z.head + 2) (length m)) refl
    where
      right : Ends (run R (fresh t) m) (given (blank 0 26 no_id)) t → Ends (run R (fresh t) m) (verdict R t m) (table_after R t m)
      right k = ends_at (run R (fresh t) m) (given (blank 0 26 no_id)) (verdict R t m) t (table_after R t m) (sym (no_head t m e).0) (sym (no_head t m e).1) k

      go : (b : Bool) → leb (Z.head + 2) (length m) ≡ b → Ends (run R (fresh t) m) (verdict R t m) (table_after R t m)
      go true u = right (rw (head_first t m (leb-true (Z.head + 2) (length m) u) false e) (ends_broken (fresh t) (drop (Z.head + 2) m)))
      go false u = right (ends_kept (fresh t) m (omega arith) refl (omega (arith, leb-false (Z.head + 2) (length m) u, size_head t m)))
