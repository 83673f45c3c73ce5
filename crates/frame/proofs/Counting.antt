-- Counting items one after the other gives the counts, the sums and the table that the lists define.
-- Assumes nothing.
use mathlib.Core.Path.{◌≡◌, refl, sym, ap, ◌∙◌}
use mathlib.Core.Bool.{Bool, true, false, cond, not, ◌&&◌, ◌||◌, or_assoc, or-false}
use mathlib.Core.List.{List, [], ◌∷◌, ◌++◌, map}
use Prim.Native.Nat.{ℕ, zero, suc, ◌+◌, ◌≤◌}
use native.Mathlib.Nat.{add-zero}
use native.Mathlib.Numerals.{add-one}
use native.Mathlib.Omega.{arith}
use lib.ListN.{length, take, drop, set, length-set, take-append-drop}
use lib.Seq.{append_snoc, take-suc-set, drop-set-lt}
use lib.Dec.{eqb}
use borrow.Author.Tests.{eqb-true}
use Rattle.frame.specs.declared.Found.{Found}
use Rattle.frame.specs.declared.Told.{Told}
use Rattle.frame.specs.Verdict.{Rules, first, any, accepted, refused, total, watched, findings}
use Rattle.frame.specs.Machine.{State, items, sum, earlier, item_tally, item_counted}

-- items counted one after the other
unfoldable pub tallied : State → List Found → State
tallied s [] = s
tallied s (f ∷ fs) = tallied (item_counted s f) fs

pub earlier_assoc : (a b c : ℕ) → earlier (earlier a b) c ≡ earlier a (earlier b c)
earlier_assoc a b c = go (eqb a 0) refl
  where
    go : (t : Bool) → eqb a 0 ≡ t → earlier (cond t b a) c ≡ cond t (earlier b c) a
    go true e = refl
    go false e = rw e

-- a last code of 0 changes nothing
pub none_earlier : (c : ℕ) → c ≡ earlier c 0
none_earlier c = go (eqb c 0) refl
  where
    go : (t : Bool) → eqb c 0 ≡ t → c ≡ cond t 0 c
    go true e = eqb-true c 0 e
    go false e = refl

pub map_take {ℓ} : {A : Type ℓ} (g : A → ℕ) (n : ℕ) (l : List A) → map g (take n l) ≡ take n (map g l)
map_take g zero [] = refl
map_take g zero (x ∷ l) = refl
map_take g (suc n) [] = refl
map_take g (suc n) (x ∷ l) = ap (λ (r : List ℕ). g x ∷ r) (map_take g n l)

module _ (R : Rules) where
  pub findings_take : (told : Told) (k n : ℕ) (rs : List (List ℕ)) → findings R told k (take n rs) ≡ take n (findings R told k rs)
  unfolding findings
  findings_take told k zero [] = refl
  findings_take told k zero (r ∷ rs) = refl
  findings_take told k (suc n) [] = refl
  findings_take told k (suc n) (r ∷ rs) = ap (λ (fs : List Found). R.item told k r ∷ fs) (findings_take told (k + 1) n rs)

  pub findings_length : (told : Told) (k : ℕ) (rs : List (List ℕ)) → length (findings R told k rs) ≡ length rs
  unfolding findings
  findings_length told k [] = refl
  findings_length told k (r ∷ rs) = ap suc (findings_length told (k + 1) rs)

pub tally_phase : (s : State) (fs : List Found) → s.tally.phase ≡ 1 → (tallied s fs).tally.phase ≡ 1
unfolding tallied item_counted item_tally
tally_phase s [] e = e
tally_phase s (f ∷ fs) e = tally_phase (item_counted s f) fs refl

pub tally_held : (s : State) (fs : List Found) → s.held ≡ [] → (tallied s fs).held ≡ []
unfolding tallied item_counted item_tally
tally_held s [] e = e
tally_held s (f ∷ fs) e = tally_held (item_counted s f) fs refl

pub tally_told : (s : State) (fs : List Found) → (tallied s fs).tally.told ≡ s.tally.told
unfolding tallied item_counted item_tally
tally_told s [] = refl
tally_told s (f ∷ fs) = tally_told (item_counted s f) fs

pub tally_id : (s : State) (fs : List Found) → (tallied s fs).tally.id ≡ s.tally.id
unfolding tallied item_counted item_tally
tally_id s [] = refl
tally_id s (f ∷ fs) = tally_id (item_counted s f) fs

pub tally_letter : (s : State) (fs : List Found) → (tallied s fs).tally.letter ≡ s.tally.letter || any (map (λ f. f.letter) fs)
unfolding tallied item_counted item_tally
tally_letter s [] = sym (or-false s.tally.letter)
tally_letter s (f ∷ fs) = tally_letter (item_counted s f) fs ∙ or_assoc s.tally.letter f.letter (any (map (λ f. f.letter) fs))

pub tally_code : (s : State) (fs : List Found) → (tallied s fs).tally.code ≡ earlier s.tally.code (first (map (λ f. f.fault) fs))
unfolding tallied item_counted item_tally
tally_code s [] = none_earlier s.tally.code
tally_code s (f ∷ fs) = tally_code (item_counted s f) fs ∙ earlier_assoc s.tally.code f.fault (first (map (λ f. f.fault) fs))

-- one item more, where it is accepted and where it isn't
one_accepted : (a : ℕ) (f : Found) (fs : List Found) → a + cond (eqb f.code 0) 1 0 + length (accepted fs) ≡ a + length (accepted (f ∷ fs))
one_accepted a f fs = go (eqb f.code 0)
  where
    go : (t : Bool) → a + cond t 1 0 + length (accepted fs) ≡ a + length (cond t (f ∷ accepted fs) (accepted fs))
    go true = omega arith
    go false = omega arith

sum_accepted : (a : ℕ) (f : Found) (fs : List Found) → a + cond (eqb f.code 0) f.amount 0 + total (accepted fs) ≡ a + total (accepted (f ∷ fs))
sum_accepted a f fs = go (eqb f.code 0)
  where
    go : (t : Bool) → a + cond t f.amount 0 + total (accepted fs) ≡ a + total (cond t (f ∷ accepted fs) (accepted fs))
    go true = omega arith
    go false = omega arith

one_refused : (a : ℕ) (f : Found) (fs : List Found) → a + cond (not (eqb f.code 0)) 1 0 + length (refused fs) ≡ a + length (refused (f ∷ fs))
one_refused a f fs = go (eqb f.code 0)
  where
    go : (t : Bool) → a + cond (not t) 1 0 + length (refused fs) ≡ a + length (cond (not t) (f ∷ refused fs) (refused fs))
    go true = omega arith
    go false = omega arith

sum_refused : (a : ℕ) (f : Found) (fs : List Found) → a + cond (not (eqb f.code 0)) f.amount 0 + total (refused fs) ≡ a + total (refused (f ∷ fs))
sum_refused a f fs = go (eqb f.code 0)
  where
    go : (t : Bool) → a + cond (not t) f.amount 0 + total (refused fs) ≡ a + total (cond (not t) (f ∷ refused fs) (refused fs))
    go true = omega arith
    go false = omega arith

one_watched : (a : ℕ) (f : Found) (fs : List Found) → a + cond (eqb f.code 0 && f.zero) 1 0 + watched (accepted fs) ≡ a + watched (accepted (f ∷ fs))
one_watched a f fs = go (eqb f.code 0) f.zero refl
  where
    go : (t u : Bool) → f.zero ≡ u → a + cond (t && u) 1 0 + watched (accepted fs) ≡ a + watched (cond t (f ∷ accepted fs) (accepted fs))
    go true true e = rw e (omega arith)
    go true false e = rw e (omega arith)
    go false u e = omega arith

pub tally_accepted : (s : State) (fs : List Found) → (tallied s fs).tally.accepted.count ≡ s.tally.accepted.count + length (accepted fs)
unfolding tallied item_counted item_tally
tally_accepted s [] = sym (add-zero s.tally.accepted.count)
tally_accepted s (f ∷ fs) = tally_accepted (item_counted s f) fs ∙ one_accepted s.tally.accepted.count f fs

pub tally_accepted_sum : (s : State) (fs : List Found) → (tallied s fs).tally.accepted.sum ≡ s.tally.accepted.sum + total (accepted fs)
unfolding tallied item_counted item_tally
tally_accepted_sum s [] = sym (add-zero s.tally.accepted.sum)
tally_accepted_sum s (f ∷ fs) = tally_accepted_sum (item_counted s f) fs ∙ sum_accepted s.tally.accepted.sum f fs

pub tally_refused : (s : State) (fs : List Found) → (tallied s fs).tally.refused.count ≡ s.tally.refused.count + length (refused fs)
unfolding tallied item_counted item_tally
tally_refused s [] = sym (add-zero s.tally.refused.count)
tally_refused s (f ∷ fs) = tally_refused (item_counted s f) fs ∙ one_refused s.tally.refused.count f fs

pub tally_refused_sum : (s : State) (fs : List Found) → (tallied s fs).tally.refused.sum ≡ s.tally.refused.sum + total (refused fs)
unfolding tallied item_counted item_tally
tally_refused_sum s [] = sym (add-zero s.tally.refused.sum)
tally_refused_sum s (f ∷ fs) = tally_refused_sum (item_counted s f) fs ∙ sum_refused s.tally.refused.sum f fs

pub tally_zeros : (s : State) (fs : List Found) → (tallied s fs).tally.zeros ≡ s.tally.zeros + watched (accepted fs)
unfolding tallied item_counted item_tally
tally_zeros s [] = sym (add-zero s.tally.zeros)
tally_zeros s (f ∷ fs) = tally_zeros (item_counted s f) fs ∙ one_watched s.tally.zeros f fs

-- one item more, accepted or refused
pub counted_items : (s : State) (f : Found) → items (item_counted s f).tally ≡ items s.tally + 1
unfolding item_counted item_tally
counted_items s f = go (eqb f.code 0)
  where
    go : (t : Bool)
        → s.tally.accepted.count + cond t 1 0 + (s.tally.refused.count + cond (not t) 1 0) ≡ s.tally.accepted.count + s.tally.refused.count + 1
    go true = omega arith
    go false = omega arith

pub counted_sum : (s : State) (f : Found) → sum (item_counted s f).tally ≡ sum s.tally + f.amount
unfolding item_counted item_tally
counted_sum s f = go (eqb f.code 0)
  where
    go : (t : Bool)
        → s.tally.accepted.sum + cond t f.amount 0 + (s.tally.refused.sum + cond (not t) f.amount 0)
        ≡ s.tally.accepted.sum + s.tally.refused.sum + f.amount
    go true = omega arith
    go false = omega arith

pub tally_items : (s : State) (fs : List Found) → items (tallied s fs).tally ≡ items s.tally + length fs
unfolding tallied
tally_items s [] = sym (add-zero (items s.tally))
tally_items s (f ∷ fs) = tally_items (item_counted s f) fs ∙ omega (arith, counted_items s f)

pub tally_sum : (s : State) (fs : List Found) → sum (tallied s fs).tally ≡ sum s.tally + total fs
unfolding tallied
tally_sum s [] = sym (add-zero (sum s.tally))
tally_sum s (f ∷ fs) = tally_sum (item_counted s f) fs ∙ omega (arith, counted_sum s f)

counted_table : (s : State) (f : Found) → (item_counted s f).table ≡ set s.table (items s.tally) f.code
unfolding item_counted item_tally
counted_table s f = refl

pub counted_length : (s : State) (f : Found) → length (item_counted s f).table ≡ length s.table
counted_length s f = ap length (counted_table s f) ∙ length-set s.table (items s.tally) f.code

-- the codes from the next byte on, the others as they were
pub tally_table : (s : State) (fs : List Found) → items s.tally + length fs ≤ length s.table
    → (tallied s fs).table ≡ take (items s.tally) s.table ++ (map (λ f. f.code) fs ++ drop (items s.tally + length fs) s.table)
unfolding tallied
tally_table s [] h =
    sym (take-append-drop (items s.tally) s.table)
    ∙ ap (λ (n : ℕ). take (items s.tally) s.table ++ drop n s.table) (sym (add-zero (items s.tally)))
tally_table s (f ∷ fs) h =
    let t = s.table in
    let i = items s.tally in
    let s' = item_counted s f in
    let e : items s'.tally ≡ suc i = counted_items s f ∙ add-one i in
    let g : s'.table ≡ set t i f.code = counted_table s f in
    let l : length s'.table ≡ length t = counted_length s f in
    let p : take (suc i) (set t i f.code) ≡ take i t ++ (f.code ∷ []) = take-suc-set t i f.code (omega arith) in
    let n : suc i + length fs ≡ i + length (f ∷ fs) = omega arith in
    let q : drop (suc i + length fs) (set t i f.code) ≡ drop (suc i + length fs) t = drop-set-lt (suc i + length fs) t i f.code (omega arith) in
    tally_table s' fs (omega arith)
    ∙ rw (e, g, p, q, n) (append_snoc (take i t) f.code (map (λ f. f.code) fs ++ drop (i + length (f ∷ fs)) t))
