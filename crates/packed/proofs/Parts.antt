-- The parts of a session's bytes: mark, flags, day, what was told, room, counts, identifier, bytes held, each written over its place.
-- Assumes nothing.
use mathlib.Core.Path.{◌≡◌, refl, sym, ap, ◌∙◌}
use mathlib.Core.Bool.{Bool, true, false, cond}
use mathlib.Core.List.{List, [], ◌∷◌, ◌++◌, append-nil, append_assoc}
use Prim.Native.Nat.{ℕ, ◌+◌, ◌≤◌}
use native.Mathlib.Omega.{arith}
use lib.ListN.{length, take, drop, length-append, length-drop, drop_of_length-le, take-append-drop}
use lib.Seq.{take_at, drop_at, drop-drop, take-add, length-take-le}
use mir.Val.{bool_byte}
use Rattle.base.specs.Bytes.{over}
use Rattle.base.proofs.Over.{length_over}
use Rattle.text.proofs.At.{PutAt, puts}
use Rattle.frame.specs.declared.Tally.{Tally}
use Rattle.frame.specs.declared.Told.{Told}
use Rattle.judge.specs.declared.Session.{Session}
use Rattle.judge.specs.Session.{longest, parts_of}
use Rattle.packed.specs.Packed.{packed_bytes, little, flags, told_bytes, counts, eights, bytes_of, counts_over, tally_over}
use Rattle.packed.proofs.Little.{little_length, eights_length}

-- over all of a list
pub over_all : (xs d : List ℕ) → length d ≡ length xs → over xs 0 d ≡ d
unfolding over
over_all xs d h =
    let k : length xs ≤ 0 + length d = omega arith in
    let e : drop (0 + length d) xs ≡ [] = drop_of_length-le xs k in
    simp e (append-nil d)

-- over a part of its own length
pub over_part : (x p b q d : List ℕ) (a : ℕ) → x ≡ p ++ b ++ q → length p ≡ a → length b ≡ length d → over x a d ≡ p ++ d ++ q
unfolding over
over_part x p b q d a e h k =
    let f = e ∙ append_assoc p b q in
    let t : take a x ≡ p = ap (take a) f ∙ take_at p (b ++ q) a h in
    let u : drop a x ≡ b ++ q = ap (drop a) f ∙ drop_at p (b ++ q) a h in
    let v : drop (a + length d) x ≡ q = sym (drop-drop (length d) a x) ∙ ap (drop (length d)) u ∙ drop_at b q (length d) k in
    rw (t, v)

pub flags_length : (c : Tally) → length (flags c) ≡ 3
unfolding flags
flags_length c = refl

pub told_length : (t : Told) → length (told_bytes t) ≡ 4
unfolding told_bytes
told_length t = refl

pub counts_length : (c : Tally) (fill : ℕ) → length (eights (counts c fill)) ≡ 48
unfolding counts
counts_length c fill = eights_length (counts c fill)

-- flags, what was told, counts, and then the identifier
letter_byte : (l : Bool) → bool_byte l ≡ cond l 1 0
letter_byte true = refl
letter_byte false = refl

module _ (c : Tally) (fill : ℕ) (i : length c.id ≡ 25) (x : List ℕ) (h : length x ≡ packed_bytes) where
  abbrev front : List ℕ
  front = c.phase ∷ bool_byte c.letter ∷ c.code ∷ []

  abbrev told_front : List ℕ
  told_front = c.told.kind ∷ bool_byte c.told.barred ∷ 0 ∷ 0 ∷ []

  pub counts_put : {r t : ℕ} {y y₁ z : List ℕ} → PutAt x 1 front r y → PutAt y 8 told_front t y₁
      → z ≡ over y₁ 20 (eights (c.accepted.count ∷ c.accepted.sum ∷ c.refused.count ∷ c.refused.sum ∷ c.zeros ∷ fill ∷ []))
      → z ≡ counts_over c fill x
  unfolding counts_over flags told_bytes counts
  counts_put {y = y} {y₁ = y₁} p o q =
      let a : y ≡ over x 1 front = (puts x 1 front (omega (arith, h)) p).bytes in
      let l : length y ≡ packed_bytes = ap length a ∙ length_over x 1 front (omega (arith, h)) ∙ h in
      let k : y₁ ≡ over y 8 told_front = (puts y 8 told_front (omega (arith, l)) o).bytes in
      rw (k, a, letter_byte c.letter, letter_byte c.told.barred) at q

  counts_long : length (counts_over c fill x) ≡ packed_bytes
  unfolding counts_over
  counts_long =
      let y = over x 1 (flags c) in
      let z = over y 8 (told_bytes c.told) in
      let l : length y ≡ packed_bytes = length_over x 1 (flags c) (omega (arith, h, flags_length c)) ∙ h in
      let m : length z ≡ packed_bytes = length_over y 8 (told_bytes c.told) (omega (arith, l, told_length c.told)) ∙ l in
      length_over z 20 (eights (counts c fill)) (omega (arith, m, counts_length c fill)) ∙ m

  -- and then the identifier
  pub tally_put : {s : ℕ} {z w : List ℕ} → z ≡ counts_over c fill x → PutAt z 68 c.id s w → w ≡ tally_over c fill x
  unfolding tally_over
  tally_put {z = z} q r =
      let m : length z ≡ packed_bytes = ap length q ∙ counts_long in
      rw q at (puts z 68 c.id (omega (arith, m, i)) r).bytes

-- bytes in eight parts
record Parted (x m f d o r n i h : List ℕ) : Type 0 where
  is : x ≡ m ++ f ++ d ++ o ++ r ++ n ++ i ++ h
  mark : length m ≡ 1
  flags : length f ≡ 3
  day : length d ≡ 4
  told : length o ≡ 4
  room : length r ≡ 8
  counts : length n ≡ 48
  id : length i ≡ 25
  held : length h ≡ longest

module _ {x m f d o r n i h : List ℕ} (z : Parted x m f d o r n i h) where
  -- mark, day and room
  days_over : (m' d' r' : List ℕ) → length m' ≡ 1 → length d' ≡ 4 → length r' ≡ 8
      → Parted (over (over (over x 0 m') 4 d') 12 r') m' f d' o r' n i h
  days_over m' d' r' p q k =
      let y = over x 0 m' in
      let w = over y 4 d' in
      let g = f ++ d ++ o ++ r ++ n ++ i ++ h in
      let a : y ≡ [] ++ m' ++ g = over_part x [] m g m' 0 (z.is ∙ simp append_assoc) refl (z.mark ∙ sym p) in
      let b : w ≡ m' ++ f ++ d' ++ (o ++ r ++ n ++ i ++ h) =
      over_part y (m' ++ f) d (o ++ r ++ n ++ i ++ h) d' 4 (a ∙ simp append_assoc) (simp (length-append, p, z.flags)) (z.day ∙ sym q) in
      let e : over w 12 r' ≡ m' ++ f ++ d' ++ o ++ r' ++ (n ++ i ++ h) =
      over_part w (m' ++ f ++ d' ++ o) r (n ++ i ++ h) r' 12 (b ∙ simp append_assoc) (simp (length-append, p, z.flags, q, z.told)) (z.room ∙ sym k) in
      record {
        is = e ∙ simp append_assoc;
        mark = p;
        flags = z.flags;
        day = q;
        told = z.told;
        room = k;
        counts = z.counts;
        id = z.id;
        held = z.held;
      }

  counts_over_lem : (c : Tally) (fill : ℕ) → Parted (counts_over c fill x) m (flags c) d (told_bytes c.told) r (eights (counts c fill)) i h
  unfolding counts_over
  counts_over_lem c fill =
      let F = flags c in
      let T = told_bytes c.told in
      let N = eights (counts c fill) in
      let p = flags_length c in
      let t = told_length c.told in
      let q = counts_length c fill in
      let y = over x 1 F in
      let v = over y 8 T in
      let a : y ≡ m ++ F ++ (d ++ o ++ r ++ n ++ i ++ h) =
      over_part x m f (d ++ o ++ r ++ n ++ i ++ h) F 1 (z.is ∙ simp append_assoc) z.mark (z.flags ∙ sym p) in
      let e : v ≡ m ++ F ++ d ++ T ++ (r ++ n ++ i ++ h) =
      over_part y (m ++ F ++ d) o (r ++ n ++ i ++ h) T 8 (a ∙ simp append_assoc) (simp (length-append, z.mark, p, z.day)) (z.told ∙ sym t) in
      let b : over v 20 N ≡ m ++ F ++ d ++ T ++ r ++ N ++ (i ++ h) =
      over_part v (m ++ F ++ d ++ T ++ r) n (i ++ h) N 20 (e ∙ simp append_assoc) (simp (length-append, z.mark, p, z.day, t, z.room))
      (z.counts ∙ sym q) in
      record {
        is = b ∙ simp append_assoc;
        mark = z.mark;
        flags = p;
        day = z.day;
        told = t;
        room = z.room;
        counts = q;
        id = z.id;
        held = z.held;
      }

  id_over : (i' : List ℕ) → length i' ≡ 25 → Parted (over x 68 i') m f d o r n i' h
  id_over i' l =
      let p = m ++ f ++ d ++ o ++ r ++ n in
      let k : length p ≡ 68 = simp (length-append, z.mark, z.flags, z.day, z.told, z.room, z.counts) in
      record {
        is = over_part x p i h i' 68 z.is k (z.id ∙ sym l);
        mark = z.mark;
        flags = z.flags;
        day = z.day;
        told = z.told;
        room = z.room;
        counts = z.counts;
        id = l;
        held = z.held;
      }

  held_over : (h' : List ℕ) → length h' ≡ longest → Parted (over x 93 h') m f d o r n i h'
  held_over h' l =
      let p = m ++ f ++ d ++ o ++ r ++ n ++ i in
      let k : length p ≡ 93 = simp (length-append, z.mark, z.flags, z.day, z.told, z.room, z.counts, z.id) in
      let b : over x 93 h' ≡ p ++ h' ++ [] = over_part x p h [] h' 93 (z.is ∙ sym (append-nil (p ++ h))) k (z.held ∙ sym l) in
      record {
        is = b ∙ append-nil (p ++ h');
        mark = z.mark;
        flags = z.flags;
        day = z.day;
        told = z.told;
        room = z.room;
        counts = z.counts;
        id = z.id;
        held = l;
      }

tally_over_lem : {x m f d o r n i h : List ℕ} → Parted x m f d o r n i h → (c : Tally) (fill : ℕ) → length c.id ≡ 25
    → Parted (tally_over c fill x) m (flags c) d (told_bytes c.told) r (eights (counts c fill)) c.id h
unfolding tally_over
tally_over_lem z c fill l = id_over (counts_over_lem z c fill) c.id l

-- any bytes of that number
module _ (x : List ℕ) (h : length x ≡ packed_bytes) where
  abbrev at : ℕ → ℕ → List ℕ
  at n a = take n (drop a x)

  at_length : (n a : ℕ) → a + n ≤ packed_bytes → length (at n a) ≡ n
  at_length n a k = length-take-le n (drop a x) (omega (arith, length-drop a x, h, k))

  any : Parted x (take 1 x) (at 3 1) (at 4 4) (at 4 8) (at 8 12) (at 48 20) (at 25 68) (drop 93 x)
  any =
      record {
        is = rw (← (take-add 1 3 x), ← (take-add 4 4 x), ← (take-add 8 4 x), ← (take-add 12 8 x), ← (take-add 20 48 x), ← (take-add 68 25 x))
            (sym (take-append-drop 93 x));
        mark = length-take-le 1 x (omega arith);
        flags = at_length 3 1 (omega arith);
        day = at_length 4 4 (omega arith);
        told = at_length 4 8 (omega arith);
        room = at_length 8 12 (omega arith);
        counts = at_length 48 20 (omega arith);
        id = at_length 25 68 (omega arith);
        held = omega (arith, length-drop 93 x);
      }

  -- an identifier that stands there is as good as written
  pub id_stands : (c : Tally) (fill : ℕ) → length c.id ≡ 25 → take 25 (drop 68 x) ≡ c.id → counts_over c fill x ≡ tally_over c fill x
  id_stands c fill l e =
      let p = take 1 x ++ flags c ++ at 4 4 ++ told_bytes c.told ++ at 8 12 ++ eights (counts c fill) in
      (counts_over_lem any c fill).is ∙ ap (λ (u : List ℕ). p ++ u ++ drop 93 x) e ∙ sym (tally_over_lem any c fill l).is

-- those of a session
regroup : (m f d o r n i h : List ℕ) → m ++ f ++ d ++ o ++ (r ++ n) ++ i ++ h ≡ m ++ f ++ d ++ o ++ r ++ n ++ i ++ h
regroup m f d o r n i h = simp append_assoc

abbrev parts_in : Session → List ℕ
parts_in s =
    (1 ∷ [])
    ++ flags s.tally
    ++ little 4 s.day
    ++ told_bytes s.tally.told
    ++ little 8 s.room
    ++ eights (counts s.tally s.fill)
    ++ s.tally.id
    ++ s.held

in_parts : (s : Session) → bytes_of s ≡ parts_in s
unfolding bytes_of eights
in_parts s =
    regroup (1 ∷ []) (flags s.tally) (little 4 s.day) (told_bytes s.tally.told) (little 8 s.room) (eights (counts s.tally s.fill))
    s.tally.id s.held

module _ (s : Session) (i : length s.tally.id ≡ 25) (j : length s.held ≡ longest) where
  abbrev c : Tally
  c = s.tally

  abbrev n : List ℕ
  n = eights (counts c s.fill)

  parts : Parted (bytes_of s) (1 ∷ []) (flags c) (little 4 s.day) (told_bytes c.told) (little 8 s.room) n c.id s.held
  parts =
      record {
        is = in_parts s;
        mark = refl;
        flags = flags_length c;
        day = little_length 4 s.day;
        told = told_length c.told;
        room = little_length 8 s.room;
        counts = counts_length c s.fill;
        id = i;
        held = j;
      }

  pub bytes_length : length (bytes_of s) ≡ packed_bytes
  bytes_length =
      ap length (in_parts s) ∙ simp (length-append, parts.flags, parts.day, parts.told, parts.room, parts.counts, i, j)

  -- another tally, and other bytes held
  pub steps : (c : Tally) (fill : ℕ) (h : List ℕ) → length c.id ≡ 25 → length h ≡ longest
      → tally_over c fill (over (bytes_of s) 93 h) ≡ bytes_of (parts_of s.day s.room c fill h)
  steps c fill h l k = (tally_over_lem (held_over parts h k) c fill l).is ∙ sym (in_parts (parts_of s.day s.room c fill h))

  -- all parts, over any bytes of that number
  pub packs : (x : List ℕ) → length x ≡ packed_bytes
      → over (tally_over c s.fill (over (over (over x 0 (1 ∷ [])) 4 (little 4 s.day)) 12 (little 8 s.room))) 93 s.held ≡ bytes_of s
  packs x h =
      let d = days_over (any x h) (1 ∷ []) (little 4 s.day) (little 8 s.room) refl parts.day parts.room in
      (held_over (tally_over_lem d c s.fill i) s.held j).is ∙ sym (in_parts s)
