-- Fields shown in UTF-8: the bytes that a byte is shown by, and a field's bytes one after the other.
-- Assumes nothing.
use mathlib.Core.Path.{◌≡◌, refl, sym, ap, ◌∙◌}
use mathlib.Core.Bool.{Bool, true, false, cond, not, ◌&&◌}
use mathlib.Core.List.{List, [], ◌∷◌, ◌++◌, append_assoc, append-nil}
use Prim.Native.Nat.{ℕ, ◌+◌, ◌/◌, ◌%◌, ◌≤◌, ◌<◌}
use native.Mathlib.Nat.{add-zero}
use native.Mathlib.Numerals.{add-one}
use native.Mathlib.Omega.{arith}
use lib.Dec.{leb, ltb, eqb}
use lib.ListN.{length, get_or, set, take, drop, length-append, take-append-drop}
use lib.Seq.{take-suc, drop-cons}
use borrow.Author.Tests.{lt-ltb, le-ltb, leb-true, ltb-true, not-true}
use Rattle.std.proofs.Common.{Option, Some, None}
use Rattle.base.specs.Bytes.{every, over}
use Rattle.base.proofs.Every.{both as both_true}
use Rattle.base.proofs.Over.{over_none, over_set}
use Rattle.text.specs.Text.{plain, with_bytes}
use Rattle.base.specs.Put.{Written, Put}
use Rattle.letters.specs.Letters.{Letter, hungarian, number_in, unicode, hex, mark, utf8, letter, letter_or_mark, own, shown_byte, shown}
use Rattle.base.proofs.Put.{both, room}

-- one byte is put
pub one_set : (x : List ℕ) (a b : ℕ) → a < length x → set x a b ≡ over x a (b ∷ [])
one_set x a b h =
    let o = over_set x a [] b (omega arith) in
    let n = over_none x a in
    rw (n, add-zero) at o

-- four bytes, one after the other, are a mark
module _ {x : List ℕ} {a : ℕ} (h : a + 4 ≤ length x) {i : ℕ} {y : List ℕ} (p : Put x a (0x5c ∷ []) i y) {j : ℕ} {z : List ℕ} (q : Put y i (0x78 ∷ []) j z) where
  pub mark_put : (b : ℕ) {d e k : ℕ} {u : List ℕ} {r : ℕ} {v : List ℕ} → d ≡ hex (b / 16) → e ≡ hex (b % 16) → Put z j (d ∷ []) k u → Put u k (e ∷ []) r v
      → Put x a (mark b) r v
  mark_put b {d} {e} f g s t =
      let o = both (both (both p (0x78 ∷ []) (omega arith) q) (d ∷ []) (omega arith) s) (e ∷ []) (omega arith) t in
      rw (f, g) at o

-- a number in UTF-8
pub utf8_one : (n : ℕ) → n < 0x80 → utf8 n ≡ n ∷ []
utf8_one n h = simp (lt-ltb n 0x80 h)

utf8_two : (n : ℕ) → 0x80 ≤ n → utf8 n ≡ (0xc0 + n / 64) ∷ (0x80 + n % 64) ∷ []
utf8_two n h = simp (le-ltb n 0x80 h)

-- the same text, said otherwise
pub said : {x : List ℕ} {a : ℕ} {d e : List ℕ} {r : ℕ} {y : List ℕ} → d ≡ e → Put x a e r y → Put x a d r y
said p q = rw p q

module _ (x : List ℕ) (a n : ℕ) (h : a + length (utf8 n) ≤ length x) (k : 0x80 ≤ n) {i : ℕ} {y : List ℕ} (p : Put x a ((0xc0 + n / 64) ∷ []) i y) where
  pub two_put : {r : ℕ} {z : List ℕ} → Put y i ((0x80 + n % 64) ∷ []) r z → Put x a (utf8 n) r z
  two_put q = said (utf8_two n k) (both p ((0x80 + n % 64) ∷ []) (omega (arith, ap length (utf8_two n k))) q)

-- the numbers of a table are below 800h
small : List Letter → Bool
small [] = true
small (l ∷ ls) = ltb l.number 0x800 && small ls

picked : (t : Bool) (m n : ℕ) (r : Option ℕ) → m < 0x800 → (r ≡ Some n → n < 0x800) → cond t (Some m) r ≡ Some n → n < 0x800
picked true m n r h k e =
    let x : m ≡ n = cc in
    omega arith
picked false m n r h k e = k e

small_in : (ls : List Letter) (b n : ℕ) → small ls ≡ true → number_in ls b ≡ Some n → n < 0x800
unfolding small
small_in [] b n e f = absurd (cc)
small_in (l ∷ ls) b n e f =
    let h = both_true (ltb l.number 0x800) (small ls) e in
    picked (eqb b l.byte) l.number n (number_in ls b) (ltb-true l.number 0x800 h.0) (small_in ls b n h.1) f

unicode_small : (b n : ℕ) → unicode b ≡ Some n → n < 0x800
unfolding unicode small
unicode_small b n f = go (plain b) refl f
  where
    go : (t : Bool) → plain b ≡ t → cond t (Some b) (number_in hungarian b) ≡ Some n → n < 0x800
    go true e f =
        let h = leb-true b 0x7e (both_true (leb 0x20 b) (leb b 0x7e) e).1 in
        let x : b ≡ n = cc in
        omega arith
    go false e f = small_in hungarian b n refl f

pub letter_small : (b n : ℕ) → letter b ≡ Some n → n < 0x800
letter_small b n f = go (eqb b 0x5c) f
  where
    go : (t : Bool) → cond t None (unicode b) ≡ Some n → n < 0x800
    go true f = absurd (cc)
    go false f = unicode_small b n f

-- a byte as it is shown, and how long
module _ (b : ℕ) {r : Option ℕ} (m : r ≡ letter b) where
  pub by_mark : r ≡ None → shown_byte b ≡ mark b
  unfolding shown_byte
  by_mark e = ap (λ (x : Option ℕ). letter_or_mark x b) (sym m ∙ e)

  pub by_letter : {n : ℕ} → r ≡ Some n → shown_byte b ≡ utf8 n
  unfolding shown_byte
  by_letter e = ap (λ (x : Option ℕ). letter_or_mark x b) (sym m ∙ e)

  pub four_wide : r ≡ None → 4 ≡ length (shown_byte b)
  four_wide e = sym (ap length (by_mark e))

  pub one_wide : {n : ℕ} → r ≡ Some n → n < 0x80 → 1 ≡ length (shown_byte b)
  one_wide {n} e h = sym (ap length (by_letter e ∙ utf8_one n h))

  pub two_wide : {n : ℕ} → r ≡ Some n → 0x80 ≤ n → 2 ≡ length (shown_byte b)
  two_wide {n} e h = sym (ap length (by_letter e ∙ utf8_two n h))

-- a field as it is shown, in two parts
shown_append : (s t : List ℕ) → shown (s ++ t) ≡ shown s ++ shown t
shown_append [] t = refl
shown_append (b ∷ s) t = ap (λ (l : List ℕ). shown_byte b ++ l) (shown_append s t) ∙ sym (append_assoc (shown_byte b) (shown s) (shown t))

module _ (s : List ℕ) (i : ℕ) (h : i < length s) where
  here : shown (drop i s) ≡ shown_byte (get_or s i 0) ++ shown (drop (i + 1) s)
  here = rw (add-one, drop-cons s i 0 h)

  one_more : shown (take (i + 1) s) ≡ shown (take i s) ++ shown_byte (get_or s i 0)
  one_more =
      let b = get_or s i 0 in
      let alone = ap (λ (l : List ℕ). shown (take i s) ++ l) (append-nil (shown_byte b)) in
      rw (add-one, take-suc s i 0 h) (shown_append (take i s) (b ∷ []) ∙ alone)

  parts : shown s ≡ shown (take i s) ++ (shown_byte (get_or s i 0) ++ shown (drop (i + 1) s))
  parts = ap shown (sym (take-append-drop i s)) ∙ shown_append (take i s) (drop i s) ∙ ap (λ (l : List ℕ). shown (take i s) ++ l) here

-- the bytes from i on and the room that is left decide as the whole does
pub record Left (s : List ℕ) (room i left : ℕ) : Type 0 where
  pub within : i ≤ length s
  pub decides : leb (length (shown s)) room ≡ leb (length (shown (drop i s))) left

-- what the test on the room says
module _ (d x : List ℕ) {t : Bool} (e : t ≡ leb (length d) (length x)) where
  pub has_room : t ≡ true → length d ≤ length x
  has_room f = leb-true (length d) (length x) (sym e ∙ f)

-- the first i bytes are put, and there is room for all
pub record Putting (x s y : List ℕ) (i at : ℕ) : Type 0 where
  pub within : i ≤ length s
  pub fits : length (shown s) ≤ length x
  pub puts : Put x 0 (shown (take i s)) at y

pub put_start : (x s : List ℕ) → length (shown s) ≤ length x → Putting x s x 0 0
put_start x s h = record { within = omega arith; fits = h; puts = record { next = refl; bytes = sym (over_none x 0) } }

module _ {x s y : List ℕ} {i at : ℕ} (p : Putting x s y i at) where
  module _ (h : i < length s) where
    long : 0 + length (shown (take i s) ++ shown_byte (get_or s i 0)) ≤ length x
    long =
        let a = length-append (shown (take i s)) (shown_byte (get_or s i 0) ++ shown (drop (i + 1) s)) in
        let b = length-append (shown_byte (get_or s i 0)) (shown (drop (i + 1) s)) in
        let d = length-append (shown (take i s)) (shown_byte (get_or s i 0)) in
        omega (arith, p.fits, ap length (parts s i h))

    pub byte_room : at + length (shown_byte (get_or s i 0)) ≤ length y
    byte_room = room p.puts (shown_byte (get_or s i 0)) long

    pub put_on : {r : ℕ} {z : List ℕ} → Put y at (shown_byte (get_or s i 0)) r z → Putting x s z (i + 1) r
    put_on q = record { within = omega arith; fits = p.fits; puts = rw (one_more s i h) (both p.puts (shown_byte (get_or s i 0)) long q) }

-- a byte that is shown as itself, and a field of such bytes
own_byte : (b : ℕ) → own b ≡ true → shown_byte b ≡ b ∷ []
unfolding shown_byte unicode
own_byte b e =
    let o = both_true (plain b) (not (eqb b 0x5c)) e in
    let p = both_true (leb 0x20 b) (leb b 0x7e) o.0 in
    let low = leb-true 0x20 b p.0 in
    let high = leb-true b 0x7e p.1 in
    rw (not-true (eqb b 0x5c) o.1, p.0, p.1, lt-ltb b 0x80 (omega arith))

own_shown : (s : List ℕ) → every own s ≡ true → shown s ≡ s
own_shown [] e = refl
own_shown (b ∷ bs) e =
    let o = both_true (own b) (every own bs) e in
    rw (own_byte b o.0, own_shown bs o.1)

-- a field of such bytes is put as it is, or doesn't fit
module _ (s x : List ℕ) {o : Bool} (e : o ≡ every own s) (q : o ≡ true) {r : Bool} {y : List ℕ}
    (p : (r ≡ leb (length s) (length x)) × (y ≡ with_bytes x s)) where
  same : shown s ≡ s
  same = own_shown s (sym e ∙ q)

  pub own_put : r ≡ true → Written (shown s) x (length s) y
  unfolding with_bytes
  own_put t =
      let l : leb (length s) (length x) ≡ true = sym p.0 ∙ t in
      let z : y ≡ over x 0 s = simp l at p.1 in
      rw same (record { count = simp l; bytes = simp l z })

  pub own_long : r ≡ false → Written (shown s) x 0 y
  unfolding with_bytes
  own_long t =
      let l : leb (length s) (length x) ≡ false = sym p.0 ∙ t in
      let z : y ≡ x = simp l at p.1 in
      rw same (record { count = simp l; bytes = simp l z })
