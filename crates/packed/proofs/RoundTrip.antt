-- Unpacking the bytes of a session gives it back; bytes that pass as a session's are those of the session that they stand for.
-- Assumes nothing.
use mathlib.Core.Path.{◌≡◌, refl, sym, ap, ◌∙◌}
use mathlib.Core.Bool.{Bool, true, false, cond}
use mathlib.Core.List.{List, [], ◌∷◌, ◌++◌}
use Prim.Native.Nat.{ℕ, zero, suc, ◌+◌, ◌*◌, ◌≤◌, ◌<◌}
use native.Mathlib.Omega.{arith}
use lib.Dec.{leb, eqb}
use lib.ListN.{length, get_or, take, drop, length-drop}
use lib.Seq.{take_at, drop_at, take_all, take-add, drop-drop, get_or-drop}
use borrow.Author.Tests.{eq-eqb, ne_eqb}
use Rattle.base.specs.Bytes.{over}
use Rattle.text.proofs.At.{PutAt, puts}
use Rattle.judge.specs.declared.Session.{Session}
use Rattle.judge.specs.Session.{longest}
use Rattle.packed.specs.Packed.{packed_bytes, little, eights, value_at, flags, told_bytes, counts, bytes_of, is_packed, tally_in, session_in, unpacked}
use Rattle.packed.specs.Packed.{PackedAs, Fits, counts_over}
use Rattle.packed.proofs.Little.{value_little, written_back}
use Rattle.packed.proofs.Parts.{bytes_length, packs, tally_put}
use Rattle.packed.proofs.Fields.{long, mark, letter, bar, zeros}

-- the byte of a letter or a bar
letter_back : (l : Bool) → eqb (cond l 1 0) 1 ≡ l
letter_back true = refl
letter_back false = refl

letter_small : (l : Bool) → leb (cond l 1 0) 1 ≡ true
letter_small true = refl
letter_small false = refl

module _ {s : Session} (f : Fits s) where
  day_back : value_at 4 4 (bytes_of s) ≡ s.day
  unfolding bytes_of flags told_bytes counts eights little
  day_back = value_little 4 s.day f.day

  room_back : value_at 8 12 (bytes_of s) ≡ s.room
  unfolding bytes_of flags told_bytes counts eights little
  room_back = value_little 8 s.room f.room

  accepted_count_back : value_at 8 20 (bytes_of s) ≡ s.tally.accepted.count
  unfolding bytes_of flags told_bytes counts eights little
  accepted_count_back = value_little 8 s.tally.accepted.count f.tally.accepted_count

  accepted_sum_back : value_at 8 28 (bytes_of s) ≡ s.tally.accepted.sum
  unfolding bytes_of flags told_bytes counts eights little
  accepted_sum_back = value_little 8 s.tally.accepted.sum f.tally.accepted_sum

  refused_count_back : value_at 8 36 (bytes_of s) ≡ s.tally.refused.count
  unfolding bytes_of flags told_bytes counts eights little
  refused_count_back = value_little 8 s.tally.refused.count f.tally.refused_count

  refused_sum_back : value_at 8 44 (bytes_of s) ≡ s.tally.refused.sum
  unfolding bytes_of flags told_bytes counts eights little
  refused_sum_back = value_little 8 s.tally.refused.sum f.tally.refused_sum

  zeros_back : value_at 8 52 (bytes_of s) ≡ s.tally.zeros
  unfolding bytes_of flags told_bytes counts eights little
  zeros_back = value_little 8 s.tally.zeros f.tally.zeros

  fill_back : value_at 8 60 (bytes_of s) ≡ s.fill
  unfolding bytes_of flags told_bytes counts eights little
  fill_back = value_little 8 s.fill f.tally.fill

  id_back : take 25 (drop 68 (bytes_of s)) ≡ s.tally.id
  unfolding bytes_of flags told_bytes counts eights little
  id_back = take_at s.tally.id s.held 25 f.tally.id

  held_back : take longest (drop 93 (bytes_of s)) ≡ s.held
  unfolding bytes_of flags told_bytes counts eights little
  held_back = ap (take longest) (drop_at s.tally.id s.held 25 f.tally.id) ∙ take_all longest s.held (omega (arith, f.held))

  front_back : (get_or (bytes_of s) 0 0 ≡ 1) × (get_or (bytes_of s) 1 0 ≡ s.tally.phase)
      × (get_or (bytes_of s) 2 0 ≡ cond s.tally.letter 1 0) × (get_or (bytes_of s) 3 0 ≡ s.tally.code)
  unfolding bytes_of flags
  front_back = (refl, refl, refl, refl)

  told_back : (get_or (bytes_of s) 8 0 ≡ s.tally.told.kind) × (get_or (bytes_of s) 9 0 ≡ cond s.tally.told.barred 1 0)
      × (get_or (bytes_of s) 10 0 ≡ 0) × (get_or (bytes_of s) 11 0 ≡ 0)
  unfolding bytes_of flags told_bytes little
  told_back = (refl, refl, refl, refl)

  pub is_packed_lem : is_packed (bytes_of s) ≡ true
  unfolding is_packed
  is_packed_lem =
      let l = eq-eqb (length (bytes_of s)) packed_bytes (bytes_length s f.tally.id f.held) in
      simp (
        l,
        front_back.0,
        front_back.2,
        letter_small s.tally.letter,
        told_back.1,
        letter_small s.tally.told.barred,
        told_back.2,
        told_back.3,
      )

  session_back : session_in (bytes_of s) ≡ s
  unfolding session_in tally_in
  session_back =
      simp (
        day_back,
        told_back.0,
        told_back.1,
        letter_back s.tally.told.barred,
        room_back,
        accepted_count_back,
        accepted_sum_back,
        refused_count_back,
        refused_sum_back,
        zeros_back,
        fill_back,
        id_back,
        held_back,
        front_back.1,
        front_back.2,
        front_back.3,
        letter_back s.tally.letter,
      )

  -- unpacking gives the session back
  pub gives_back : unpacked (bytes_of s) ≡ s
  unfolding unpacked
  gives_back = rw is_packed_lem session_back

  -- the answer of packing, by the size of what is lent
  pub wrong_size : {x : List ℕ} → (length x ≡ packed_bytes → ⊥) → PackedAs s x false x
  wrong_size {x} h =
      let q = ne_eqb (length x) packed_bytes h in
      record { answer = rw q; bytes = rw q; back = gives_back }

  pub right_size : {r₁ r₅ r : ℕ} {x y y₁ y₂ y₃ z y₄ : List ℕ} → length x ≡ packed_bytes
      → PutAt x 0 (1 ∷ []) r₁ y₁ → y₂ ≡ over y₁ 4 (little 4 s.day) → y₃ ≡ over y₂ 12 (little 8 s.room) → length y₃ ≡ packed_bytes
      → z ≡ counts_over s.tally s.fill y₃ → PutAt z 68 s.tally.id r₅ y₄
      → PutAt y₄ 93 s.held r y → length y₄ ≡ packed_bytes → PackedAs s x true y
  right_size {x = x} {y₃ = y₃} {y₄ = y₄} h p₁ e₂ e₃ k e₅ p₅ p l =
      let q = eq-eqb (length x) packed_bytes h in
      let e₁ = (puts x 0 (1 ∷ []) (omega (arith, h)) p₁).bytes in
      let e₄ = tally_put s.tally s.fill f.tally.id y₃ k e₅ p₅ in
      let e = (puts y₄ 93 s.held (omega (arith, l, f.held)) p).bytes in
      record { answer = rw q; bytes = rw q (rw (e₄, e₃, e₂, e₁) at e ∙ packs s f.tally.id f.held x h); back = gives_back }

-- the numbers in k times eight bytes from a place on
values_at : ℕ → ℕ → List ℕ → List ℕ
values_at a zero x = []
values_at a (suc k) x = value_at 8 a x ∷ values_at (a + 8) k x

module _ (x : List ℕ) (b : (i : ℕ) → get_or x i 0 < 256) where
  eights_at : (k a : ℕ) → a + k * 8 ≤ length x → eights (values_at a k x) ≡ take (k * 8) (drop a x)
  unfolding values_at eights
  eights_at zero a h = refl
  eights_at (suc k) a h =
      let e = written_back 8 x a b (omega arith) in
      let f : eights (values_at (a + 8) k x) ≡ take (k * 8) (drop (a + 8) x) = eights_at k (a + 8) (omega arith) in
      let n : 8 + k * 8 ≡ suc k * 8 = omega arith in
      ap (λ (l : List ℕ). l ++ eights (values_at (a + 8) k x)) e
      ∙ ap (λ (l : List ℕ). take 8 (drop a x) ++ l) f
      ∙ ap (λ (l : List ℕ). take 8 (drop a x) ++ take (k * 8) l) (sym (drop-drop 8 a x))
      ∙ sym (take-add 8 (k * 8) (drop a x))
      ∙ ap (λ (j : ℕ). take j (drop a x)) n

-- the front of a session's bytes
letter_is : (c : ℕ) → c ≤ 1 → cond (eqb c 1) 1 0 ≡ c
letter_is zero h = refl
letter_is (suc zero) h = refl
letter_is (suc (suc c)) h = absurd (omega arith)

front_is : (x : List ℕ) → length x ≡ packed_bytes → get_or x 0 0 ≡ 1 → get_or x 2 0 ≤ 1
    → 1 ∷ get_or x 1 0 ∷ cond (eqb (get_or x 2 0) 1) 1 0 ∷ get_or x 3 0 ∷ [] ≡ take 4 x
front_is [] h m l = absurd (omega arith)
front_is (p ∷ []) h m l = absurd (omega arith)
front_is (p ∷ q ∷ []) h m l = absurd (omega arith)
front_is (p ∷ q ∷ r ∷ []) h m l = absurd (omega arith)
front_is (p ∷ q ∷ r ∷ s ∷ t) h m l = simp (m, letter_is r l)

told_is : (y : List ℕ) → 4 ≤ length y → get_or y 1 0 ≤ 1 → get_or y 2 0 ≡ 0 → get_or y 3 0 ≡ 0
    → get_or y 0 0 ∷ cond (eqb (get_or y 1 0) 1) 1 0 ∷ 0 ∷ 0 ∷ [] ≡ take 4 y
told_is [] h b m n = absurd (omega arith)
told_is (p ∷ []) h b m n = absurd (omega arith)
told_is (p ∷ q ∷ []) h b m n = absurd (omega arith)
told_is (p ∷ q ∷ r ∷ []) h b m n = absurd (omega arith)
told_is (p ∷ q ∷ r ∷ s ∷ t) h b m n = simp (m, n, letter_is q b)

abbrev numbers : List ℕ → List ℕ
numbers x = value_at 8 12 x ∷ counts (tally_in x) (value_at 8 60 x)

numbers_are : (x : List ℕ) → numbers x ≡ values_at 12 7 x
unfolding counts tally_in values_at
numbers_are x = refl

-- what passes as a session's bytes is the bytes of a session
module _ (x : List ℕ) (b : (i : ℕ) → get_or x i 0 < 256) (h : is_packed x ≡ true) where
  front_of : 1 ∷ flags (tally_in x) ≡ take 4 x
  unfolding flags tally_in
  front_of = front_is x (long x h) (mark x h) (letter x h)

  told_of : told_bytes (tally_in x).told ≡ take 4 (drop 8 x)
  unfolding told_bytes tally_in
  told_of =
      let at : (i : ℕ) → get_or (drop 8 x) i 0 ≡ get_or x (8 + i) 0 = λ i. get_or-drop 8 x i 0 in
      let k : 4 ≤ length (drop 8 x) = omega (arith, length-drop 8 x, long x h) in
      rw (at 0, at 1) at
      (told_is (drop 8 x) k (rw (at 1) (bar x h)) (at 2 ∙ (zeros x h).0) (at 3 ∙ (zeros x h).1))

  eights_of : eights (numbers x) ≡ take 56 (drop 12 x)
  eights_of = ap eights (numbers_are x) ∙ eights_at x b 7 12 (omega (arith, long x h))

  pub of_a_session : bytes_of (session_in x) ≡ x
  unfolding bytes_of session_in tally_in
  of_a_session =
      let d = little 4 (value_at 4 4 x) in
      let o = told_bytes (tally_in x).told in
      let n = eights (numbers x) in
      let i = take 25 (drop 68 x) in
      let j = take longest (drop 93 x) in
      ap (λ (l : List ℕ). l ++ d ++ o ++ n ++ i ++ j) front_of
      ∙ ap (λ (l : List ℕ). take 4 x ++ l ++ o ++ n ++ i ++ j) (written_back 4 x 4 b (omega (arith, long x h)))
      ∙ ap (λ (l : List ℕ). l ++ o ++ n ++ i ++ j) (sym (take-add 4 4 x))
      ∙ ap (λ (l : List ℕ). take 8 x ++ l ++ n ++ i ++ j) told_of
      ∙ ap (λ (l : List ℕ). l ++ n ++ i ++ j) (sym (take-add 8 4 x))
      ∙ ap (λ (l : List ℕ). take 12 x ++ l ++ i ++ j) eights_of
      ∙ ap (λ (l : List ℕ). l ++ i ++ j) (sym (take-add 12 56 x))
      ∙ ap (λ (l : List ℕ). l ++ j) (sym (take-add 68 25 x))
      ∙ sym (take-add 93 longest x)
      ∙ take_all packed_bytes x (omega (arith, long x h))
