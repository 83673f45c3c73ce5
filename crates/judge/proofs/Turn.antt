-- Reading a piece: whole records one after the other, and a record begun that is completed, are runs of the machine.
-- Assumes nothing.
use mathlib.Core.Path.{◌≡◌, refl, sym, ap, ap₂, ◌∙◌}
use mathlib.Core.Bool.{Bool, true, false}
use mathlib.Core.List.{List, [], ◌∷◌, ◌++◌}
use Prim.Native.Nat.{ℕ, ◌+◌, ◌-◌, ◌≤◌, ◌<◌}
use native.Mathlib.Numerals.{add-one}
use native.Mathlib.Omega.{arith}
use lib.ListN.{length, get_or, take, drop, set, length-append, length-set, take-append-drop}
use lib.Seq.{length-take-le, take-set-le, take-suc-set, get_or-take, drop-cons, append_snoc}
use lib.Dec.{leb, eqb}
use borrow.Author.Tests.{leb-true, leb-false, eqb-true, eqb-false}
use borrow.Rule.Slice.PartMut.{put_mid}
use Rattle.std.specs.List.{IsSplitAt}
use Rattle.base.specs.Bytes.{over}
use Rattle.base.proofs.Over.{length_over}
use Rattle.text.specs.Text.{with_bytes}
use Rattle.text.proofs.At.{put_at_lem}
use Rattle.frame.specs.Verdict.{Rules}
use Rattle.frame.specs.Sound.{Sound}
use Rattle.frame.specs.Machine.{State, phased, at, size, item_counted, head_read, item_read, foot_read, judged, run}
use Rattle.frame.proofs.Pieces.{run_append, run_exact, run_kept, run_whole, size_front, size_seen, run_broken, run_overflown, run_after}
use Rattle.frame.specs.declared.Tally.{Tally}
use Rattle.judge.specs.declared.Left.{Left}
use Rattle.judge.specs.Session.{longest, pad, state_with}
use Rattle.judge.specs.Inner.{Ready, Read, Fit, Became, EndedAs}
use Rattle.judge.proofs.Held.{over_front, size_least, size_most}
use Rattle.judge.proofs.Valid.{Valid, read_ready, read_state, valid_judged, judged_none}

-- whole records at the front of x were judged: to read what is left is to read x
pub record Walk (R : Rules) (s : State) (x y : List ℕ) (c : Tally) (t : List ℕ) : Type 0 where
  pub reads : run R s x ≡ run R (state_with c [] t) y
  pub ready : Ready c t

-- a turn of the walk over a piece
module _ {R : Rules} {s : State} {x y : List ℕ} {c : Tally} {t : List ℕ} (w : Walk R s x y c t) (p : c.phase ≤ 1)
    {m : ℕ} (q : m ≡ size c.phase y) {r z : List ℕ} (d : IsSplitAt y m r z) where
  pub turn_least : 2 ≤ m
  turn_least = omega (arith, q, size_least c.phase y)

  -- the part is a whole record
  pub turn_whole : length r ≡ size c.phase r
  turn_whole = d.3 ∙ q ∙ sym (ap (size c.phase) d.1 ∙ size_front c.phase m y turn_least d.0)

  pub turn_on : (ok : Sound R) {c' : Tally} {t' : List ℕ} → Read (judged R (state_with c [] t) r) c' t' → Walk R s x z c' t'
  turn_on ok {c'} {t'} k =
      let s₁ = state_with c [] t in
      let e : y ≡ r ++ z = sym (ap₂ (λ (a b : List ℕ). a ++ b) d.1 d.2 ∙ take-append-drop m y) in
      let j : run R s₁ r ≡ judged R s₁ r = run_exact R s₁ r p refl turn_whole (omega (arith, d.3, turn_least)) in
      record {
        reads =
            w.reads
            ∙ ap (run R s₁) e
            ∙ run_append R s₁ r z
            ∙ ap (λ (a : State). run R a z) (j ∙ sym (read_state (judged R s₁ r) c' t' k (judged_none R s₁ r)));
        ready = read_ready (judged R s₁ r) c' t' (valid_judged s₁ w.ready R ok r) k;
      }

-- what is left of a piece, after its whole records
module _ (c : Tally) (h : List ℕ) where
  -- it is held
  pub left_held : (y : List ℕ) → c.phase ≤ 1 → length y < size c.phase y → h ≡ pad y → EndedAs c y (record { tally = c; fill = length y }) h
  left_held y p l q =
      record {
        became = λ R t.
            rw (run_kept R (state_with c [] t) [] y p refl l)
            (record { tally = refl; fill = refl; held = q; bytes = refl });
      }

  -- nothing is held
  module _ (q : h ≡ pad []) where
    still : (y : List ℕ) → ((R : Rules) (t : List ℕ) → run R (state_with c [] t) y ≡ state_with c [] t)
        → EndedAs c y (record { tally = c; fill = 0 }) h
    still y r = record { became = λ R t. rw (r R t) (record { tally = refl; fill = refl; held = q; bytes = refl }) }

    -- after the foot
    pub left_none : (y : List ℕ) → length y ≤ 0 → EndedAs c y (record { tally = c; fill = 0 }) h
    unfolding run
    left_none [] l = still [] (λ R t. refl)
    left_none (b ∷ y) l = absurd (omega arith)

    pub left_break : (y : List ℕ) → c.phase ≡ 2 → 0 < length y → (d : Tally) → d ≡ phased 3 c
        → EndedAs c y (record { tally = d; fill = 0 }) h
    left_break [] p l d k = absurd (omega arith)
    left_break (b ∷ y) p l d k =
        record {
          became = λ R t.
              rw (run_after R (state_with c [] t) b y p) (record { tally = k; fill = refl; held = q; bytes = refl });
        }

    -- after a break and after an overflow
    at_phase : (t : List ℕ) (p : ℕ) → c.phase ≡ p → at p [] (state_with c [] t) ≡ state_with c [] t
    at_phase t p k = ap (λ (m : ℕ). at m [] (state_with c [] t)) (sym k)

    pub left_over : (y : List ℕ) → 1 < c.phase → (c.phase ≡ 2 → ⊥) → c.phase ≤ 4 → EndedAs c y (record { tally = c; fill = 0 }) h
    left_over y p k m = go (eqb c.phase 3) refl
      where
        stays : (R : Rules) (t : List ℕ) (n : ℕ) → c.phase ≡ n
            → run R (at n [] (state_with c [] t)) y ≡ at n [] (state_with c [] t)
            → run R (state_with c [] t) y ≡ state_with c [] t
        stays R t n w r = rw (at_phase t n w) at r

        go : (b : Bool) → eqb c.phase 3 ≡ b → EndedAs c y (record { tally = c; fill = 0 }) h
        go true w = still y (λ R t. stays R t 3 (eqb-true c.phase 3 w) (run_broken R (state_with c [] t) y))
        go false w =
            let i : c.phase ≡ 4 = omega (arith, eqb-false c.phase 3 w) in
            still y (λ R t. stays R t 4 i (run_overflown R (state_with c [] t) y))

-- a record of which something is held is judged with its last byte
run_all : (R : Rules) (s : State) (h y : List ℕ) → s.tally.phase ≤ 1 → s.held ≡ h → 0 < length y → length (h ++ y) ≡ size s.tally.phase (h ++ y)
    → run R s y ≡ judged R s (h ++ y)
run_all R s h [] p e m l = absurd (omega arith)
run_all R s h (b ∷ y) p e m l = run_whole R s h b y p e l

-- with nothing held
pub empty_fed : (R : Rules) (c : Tally) (n : ℕ) (h t y : List ℕ) {l : Left} {h' t' : List ℕ} → n ≡ 0
    → Became (run R (state_with c [] t) (drop 0 y)) l h' t' → Became (run R (state_with c (take n h) t) y) l h' t'
empty_fed R c n h t y z r = rw z r

-- a record is begun, in memory for the longest
pub record Begun (c : Tally) (n : ℕ) (h t : List ℕ) : Type 0 where
  pub fit : Fit c n h t
  pub long : length h ≡ longest
  pub some : 0 < n

-- with the byte b after what is held its kind shows, and so its length w
pub record Shown (c : Tally) (n : ℕ) (h t : List ℕ) (b w : ℕ) : Type 0 where
  pub begun : Begun c n h t
  pub size : w ≡ size c.phase (set h n b)

-- k bytes y that begin with b are put after what is held: ys is what the part lent for them holds then
pub record Put (c : Tally) (n : ℕ) (h t : List ℕ) (b w : ℕ) (y : List ℕ) (k : ℕ) (ys : List ℕ) : Type 0 where
  pub shown : Shown c n h t b w
  pub count : length y ≡ k
  pub more : 0 < k
  pub first : get_or y 0 0 ≡ b
  pub within : n + k ≤ w
  pub bytes : ys ≡ with_bytes (take (longest - n) (drop n (set h n b))) y

module _ {c : Tally} {n : ℕ} {h t : List ℕ} (d : Begun c n h t) where
  begun_early : c.phase ≤ 1
  begun_early = go (leb c.phase 1) refl
    where
      go : (b : Bool) → leb c.phase 1 ≡ b → c.phase ≤ 1
      go true q = leb-true c.phase 1 q
      go false q = absurd (omega (arith, d.some, d.fit.late (leb-false c.phase 1 q)))

  begun_short : n < size c.phase (take n h)
  begun_short = d.fit.early begun_early

  pub begun_room : n < longest
  begun_room = omega (arith, begun_short, size_most c.phase (take n h))

  begun_length : length (take n h) ≡ n
  begun_length = length-take-le n h (omega (arith, d.long, begun_room))

  -- an empty piece
  pub none_fed : (R : Rules) (y h' : List ℕ) → length y ≡ 0 → h' ≡ pad (take n h)
      → Became (run R (state_with c (take n h) t) y) (record { tally = c; fill = n }) h' t
  unfolding run
  none_fed R [] h' z q = record { tally = refl; fill = sym begun_length; held = q; bytes = refl }
  none_fed R (b ∷ y) h' z q = absurd (omega arith)

module _ {c : Tally} {n : ℕ} {h t : List ℕ} {b w : ℕ} (d : Shown c n h t b w) where
  pub set_long : length (set h n b) ≡ longest
  set_long = length-set h n b ∙ d.begun.long

  joined_one : length (take n h ++ (b ∷ [])) ≡ n + 1
  joined_one = length-append (take n h) (b ∷ []) ∙ ap (λ (m : ℕ). m + 1) (begun_length d.begun)

  one_more : size c.phase (take n h ++ (b ∷ [])) ≡ w
  one_more =
      let m = begun_room d.begun in
      sym (ap (λ (j : ℕ). size c.phase (take j (set h n b))) (add-one n) ∙ ap (size c.phase) (take-suc-set h n b (omega (arith, d.begun.long))))
      ∙ size_front c.phase (n + 1) (set h n b) (omega (arith, d.begun.some)) (omega (arith, set_long))
      ∙ sym d.size

  -- a byte is lacking
  pub lacks : n < w
  lacks = go (leb 2 n) refl
    where
      go : (a : Bool) → leb 2 n ≡ a → n < w
      go true q =
          let m : 2 ≤ length (take n h) = omega (arith, leb-true 2 n q, begun_length d.begun) in
          omega (arith, begun_short d.begun, one_more, size_seen c.phase (take n h) (b ∷ []) m)
      go false q = omega (arith, leb-false 2 n q, d.size, size_least c.phase (set h n b))

module _ {c : Tally} {n : ℕ} {h t : List ℕ} {b w : ℕ} {y : List ℕ} {k : ℕ} {ys : List ℕ} (d : Put c n h t b w y k ys) where
  abbrev g : List ℕ
  g = take n h

  abbrev h₂ : List ℕ
  h₂ = put_mid n (longest - n) (set h n b) ys

  joined_length : length (g ++ y) ≡ n + k
  joined_length = length-append g y ∙ ap₂ (λ (i j : ℕ). i + j) (begun_length d.shown.begun) d.count

  joined_whole : size c.phase (g ++ y) ≡ w
  joined_whole =
      let z : y ≡ b ∷ drop 1 y = drop-cons y 0 0 (omega (arith, d.count, d.more)) ∙ ap (λ (x : ℕ). x ∷ drop 1 y) d.first in
      let m : 2 ≤ length (g ++ (b ∷ [])) = omega (arith, joined_one d.shown, d.shown.begun.some) in
      ap (λ (x : List ℕ). size c.phase (g ++ x)) z
      ∙ sym (ap (size c.phase) (append_snoc g b (drop 1 y)))
      ∙ size_seen c.phase (g ++ (b ∷ [])) (drop 1 y) m
      ∙ one_more d.shown

  pub put_most : n + k ≤ longest
  put_most = omega (arith, d.within, d.shown.size, size_most c.phase (set h n b))

  put_room : n + length y ≤ length (set h n b)
  put_room = omega (arith, put_most, d.count, set_long d.shown)

  put_is : h₂ ≡ over (set h n b) n y
  put_is =
      let l : length (set h n b) - n ≡ longest - n = ap (λ (m : ℕ). m - n) (set_long d.shown) in
      rw l at (put_at_lem (set h n b) n y ys put_room (rw l d.bytes))

  pub put_long : length h₂ ≡ longest
  put_long = ap length put_is ∙ length_over (set h n b) n y put_room ∙ set_long d.shown

  put_front : take (n + k) h₂ ≡ g ++ y
  put_front =
      ap₂ (λ (j : ℕ) (x : List ℕ). take (n + j) x) (sym d.count) put_is
      ∙ over_front (set h n b) n y (omega (arith, put_room))
      ∙ ap (λ (x : List ℕ). x ++ y) (take-set-le n h n b (omega arith))

  pub put_count : n + k ≡ length (take (n + k) h₂)
  put_count = sym (ap length put_front ∙ joined_length)

  module _ (R : Rules) where
    -- not whole yet
    pub kept_became : n + k < w → (h' : List ℕ) → h' ≡ pad (take (n + k) h₂)
        → Became (run R (state_with c g t) y) (record { tally = c; fill = n + k }) h' t
    kept_became m h' q =
        let r : length (g ++ y) < size c.phase (g ++ y) = omega (arith, joined_length, joined_whole) in
        rw (run_kept R (state_with c g t) g y (begun_early d.shown.begun) refl r)
        (record { tally = refl; fill = sym joined_length; held = q ∙ ap pad put_front; bytes = refl })

    -- whole
    module _ (ok : Sound R) (m : n + k ≡ w) where
      abbrev j : State
      j = judged R (state_with c [] t) (take (n + k) h₂)

      pub put_whole : length (take (n + k) h₂) ≡ size c.phase (take (n + k) h₂)
      put_whole = sym put_count ∙ m ∙ sym (ap (size c.phase) put_front ∙ joined_whole)

      judged_any : (x : List ℕ) → judged R (state_with c g t) x ≡ judged R (state_with c [] t) x
      unfolding judged head_read item_counted item_read foot_read
      judged_any x = refl

      completes : run R (state_with c g t) y ≡ j
      completes =
          let z : length (g ++ y) ≡ size c.phase (g ++ y) =
          joined_length ∙ m ∙ sym joined_whole in
          run_all R (state_with c g t) g y (begun_early d.shown.begun) refl (omega (arith, d.count, d.more)) z
          ∙ ap (judged R (state_with c g t)) (sym put_front)
          ∙ judged_any (take (n + k) h₂)

      judged_valid : Valid j
      judged_valid = valid_judged (state_with c [] t) d.shown.begun.fit.ready R ok (take (n + k) h₂)

      module _ {c' : Tally} {t' : List ℕ} (r : Read j c' t') where
        pub put_ready : Ready c' t'
        put_ready = read_ready j c' t' judged_valid r

        -- and then what follows it
        put_became : (x : List ℕ) {l : Left} {h' t'' : List ℕ} → Became (run R (state_with c' [] t') x) l h' t''
            → Became (run R (state_with c g t) (y ++ x)) l h' t''
        put_became x v =
            let i : state_with c' [] t' ≡ j = read_state j c' t' r (judged_none R (state_with c [] t) (take (n + k) h₂)) in
            let split : run R (state_with c g t) (y ++ x) ≡ run R (state_with c' [] t') x =
            run_append R (state_with c g t) y x ∙ ap (λ (a : State). run R a x) (completes ∙ sym i) in
            rw split v

-- the piece doesn't complete it, or it does
module _ {c : Tally} {n : ℕ} {h t : List ℕ} {b w : ℕ} (d : Shown c n h t b w) where
  pub all_put : n + (w - n) ≡ w
  all_put = omega (arith, lacks d)

  module _ (piece : List ℕ) (i : get_or piece 0 0 ≡ b) where
    pub short_put : (length piece ≡ 0 → ⊥) → length piece < w - n → {ys : List ℕ}
        → ys ≡ with_bytes (take (longest - n) (drop n (set h n b))) piece → Put c n h t b w piece (length piece) ys
    short_put z m q = record { shown = d; count = refl; more = omega (arith, z); first = i; within = omega (arith, lacks d); bytes = q }

    pub long_put : w - n ≤ length piece → {ys : List ℕ} → ys ≡ with_bytes (take (longest - n) (drop n (set h n b))) (take (w - n) piece)
        → Put c n h t b w (take (w - n) piece) (w - n) ys
    long_put m q =
        let some : 0 < w - n = omega (arith, lacks d) in
        record {
          shown = d;
          count = length-take-le (w - n) piece m;
          more = some;
          first = get_or-take (w - n) piece 0 0 some ∙ i;
          within = omega (arith, all_put);
          bytes = q;
        }

    pub long_became : (m : w - n ≤ length piece) {ys : List ℕ} (q : ys ≡ with_bytes (take (longest - n) (drop n (set h n b))) (take (w - n) piece))
        (R : Rules) (ok : Sound R) {c' : Tally} {t' : List ℕ}
        → Read (judged R (state_with c [] t) (take (n + (w - n)) (put_mid n (longest - n) (set h n b) ys))) c' t'
        → {l : Left} {h' t'' : List ℕ} → Became (run R (state_with c' [] t') (drop (w - n) piece)) l h' t''
        → Became (run R (state_with c (take n h) t) piece) l h' t''
    long_became m q R ok r v =
        rw (take-append-drop (w - n) piece) at (put_became (long_put m q) R ok all_put r (drop (w - n) piece) v)
