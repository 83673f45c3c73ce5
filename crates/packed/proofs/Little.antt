-- Numbers in bytes, the least first: written, read, and each given back by the other.
-- Assumes nothing.
use mathlib.Core.Path.{◌≡◌, refl, sym, ap, ◌∙◌}
use mathlib.Core.List.{List, [], ◌∷◌, ◌++◌}
use Prim.Native.Nat.{ℕ, zero, suc, ◌+◌, ◌*◌, ◌/◌, ◌%◌, ◌^◌, ◌≤◌, ◌<◌}
use native.Mathlib.Nat.{zero-add, add-zero, pow-suc, div-lt_iff_lt-mul, div-add-mod'}
use native.Mathlib.Omega.{arith}
use Rattle.std.proofs.Math.Nat.{div-div-eq-div-mul}
use lib.Dec.{lit<}
use lib.ListN.{length, get_or, take, drop, length-append, length-drop}
use lib.Seq.{length-take-le, get_or-take, get_or-drop}
use Rattle.std.specs.Int.{w32, w64, to_le_bytes, from_le_bytes, bytes_low_first, byte_at, byte_worth, sum_through}
use Rattle.base.specs.Bytes.{over}
use Rattle.text.proofs.At.{PutAt, puts}
use Rattle.base.proofs.Over.{length_over, over_none, over_over}
use Rattle.base.proofs.Walk.{step, done}
use Rattle.packed.specs.Packed.{little, value, eights, value_at}

pub little_length : (k n : ℕ) → length (little k n) ≡ k
unfolding little
little_length zero n = refl
little_length (suc k) n = ap suc (little_length k (n / 256))

-- reading what was written
pub value_little : (k n : ℕ) → n < 256 ^ k → value (little k n) ≡ n
unfolding little value
value_little zero n h = omega arith
value_little (suc k) n h =
    let q : n / 256 < 256 ^ k = (div-lt_iff_lt-mul (lit< tt)).1 (rw pow-suc at h) in
    let e = value_little k (n / 256) q in
    simp e (div-add-mod' n 256)

-- bytes stand for less than 256 to their number
value_lt : (bs : List ℕ) → ((i : ℕ) → i < length bs → get_or bs i 0 < 256) → value bs < 256 ^ length bs
unfolding value
value_lt [] h = lit< tt
value_lt (b ∷ bs) h =
    let l : b < 256 = h 0 (omega arith) in
    let e = value_lt bs (λ (i : ℕ) (k : i < length bs). h (suc i) (omega arith)) in
    rw pow-suc (omega arith)

-- writing what was read
little_value : (bs : List ℕ) → ((i : ℕ) → i < length bs → get_or bs i 0 < 256) → little (length bs) (value bs) ≡ bs
unfolding little value
little_value [] h = refl
little_value (b ∷ bs) h =
    let l : b < 256 = h 0 (omega arith) in
    let m : (value bs * 256 + b) % 256 ≡ b = omega arith in
    let d : (value bs * 256 + b) / 256 ≡ value bs = omega arith in
    let e = little_value bs (λ (i : ℕ) (k : i < length bs). h (suc i) (omega arith)) in
    simp (m, d, e)

-- w bytes of a list
module _ (w : ℕ) (x : List ℕ) (a : ℕ) (b : (i : ℕ) → get_or x i 0 < 256) (h : a + w ≤ length x) where
  abbrev y : List ℕ
  y = take w (drop a x)

  wide : length y ≡ w
  wide = length-take-le w (drop a x) (omega (arith, length-drop a x))

  all_bytes : (i : ℕ) → i < length y → get_or y i 0 < 256
  all_bytes i k = rw (get_or-take w (drop a x) i 0 (omega (arith, wide)), get_or-drop a x i 0) (b (a + i))

  pub value_small : value_at w a x < 256 ^ w
  value_small = rw wide at (value_lt y all_bytes)

  pub written_back : little w (value_at w a x) ≡ y
  written_back = ap (λ (n : ℕ). little n (value y)) (sym wide) ∙ little_value y all_bytes

-- four bytes are a number of 32 bits
pub four_fits : (x : List ℕ) (a : ℕ) → ((i : ℕ) → get_or x i 0 < 256) → a + 4 ≤ length x → {n : ℕ} → n ≡ value_at 4 a x → n < 4294967296
four_fits x a b h e = rw e (value_small 4 x a b h)

pub eights_length : (ns : List ℕ) → length (eights ns) ≡ length ns * 8
unfolding eights
eights_length [] = refl
eights_length (n ∷ ns) =
    let e = eights_length ns in
    let l = little_length 8 n in
    simp (length-append, e, l) (omega arith)

-- the library's bytes of a number, the least first
byte_is : (i n : ℕ) → byte_at i n ≡ n / 256 ^ i % 256
byte_is zero n = omega arith
byte_is (suc i) n = refl

low_first : (k i n : ℕ) → bytes_low_first i k n ≡ little k (n / 256 ^ i)
unfolding little
low_first zero i n = refl
low_first (suc k) i n =
    let d : n / 256 ^ suc i ≡ n / 256 ^ i / 256 = ap (λ (m : ℕ). n / m) (pow-suc 256 i) ∙ sym (div-div-eq-div-mul n (256 ^ i) 256) in
    rw (byte_is i n, ← d) (ap (λ (bs : List ℕ). n / 256 ^ i % 256 ∷ bs) (low_first k (suc i) n))

pub four : (n : ℕ) → to_le_bytes w32 n ≡ little 4 n
four n = low_first 4 0 n ∙ ap (little 4) (omega arith)

pub eight : (n : ℕ) → to_le_bytes w64 n ≡ little 8 n
eight n = low_first 8 0 n ∙ ap (little 8) (omega arith)

-- they are put over what stands
pub put_little : (x : List ℕ) (a w n : ℕ) {bs y : List ℕ} {j : ℕ} → bs ≡ little w n → PutAt x a bs j y → a + w ≤ length x → y ≡ over x a (little w n)
put_little x a w n {bs} e p h = (puts x a bs (omega (arith, ap length e, little_length w n)) p).bytes ∙ ap (over x a) e

-- what is left to write of numbers stands over what is written, as all of them over what stood
pub record Puts (out₀ : List ℕ) (at : ℕ) (ns out : List ℕ) (i : ℕ) : Type 0 where
  pub long : length out ≡ length out₀
  pub room : at + length ns * 8 ≤ length out₀
  pub low : i ≤ length ns
  pub stands : over out (at + i * 8) (eights (drop i ns)) ≡ over out₀ at (eights ns)

pub puts_start : (out : List ℕ) (at : ℕ) (ns : List ℕ) → at + length ns * 8 ≤ length out → Puts out at ns out 0
puts_start out at ns h = record { long = refl; room = h; low = omega arith; stands = rw add-zero }

module _ {out₀ : List ℕ} {at : ℕ} {ns out : List ℕ} {i : ℕ} (p : Puts out₀ at ns out i) where
  pub puts_on : i < length ns → (y : List ℕ) {bs : List ℕ} {j : ℕ} → bs ≡ to_le_bytes w64 (get_or ns i 0) → PutAt out (at + i * 8) bs j y
      → Puts out₀ at ns y (i + 1)
  unfolding eights
  puts_on h y b o =
      let q : y ≡ over out (at + i * 8) (little 8 (get_or ns i 0)) =
      put_little out (at + i * 8) 8 (get_or ns i 0) (b ∙ eight (get_or ns i 0)) o (omega (arith, p.room, p.long)) in
      let n = get_or ns i 0 in
      let t = drop (i + 1) ns in
      let f = step ns i h in
      let m = little_length 8 n in
      let u = eights_length t in
      let r : at + i * 8 + 8 + length (eights t) ≤ length out = omega (arith, p.long, p.room, length-drop (i + 1) ns) in
      let s : over out (at + i * 8) (little 8 n ++ eights t) ≡ over out₀ at (eights ns) = rw f at p.stands in
      let w = over out (at + i * 8) (little 8 n) in
      let o : over w (at + i * 8 + length (little 8 n)) (eights t) ≡ over out (at + i * 8) (little 8 n ++ eights t) =
      over_over out (at + i * 8) (little 8 n) (eights t) (omega arith) in
      let a : at + i * 8 + length (little 8 n) ≡ at + (i + 1) * 8 = omega arith in
      record {
        long = ap length q ∙ length_over out (at + i * 8) (little 8 n) (omega arith) ∙ p.long;
        room = p.room;
        low = omega arith;
        stands = ap (λ (z : List ℕ). over z (at + (i + 1) * 8) (eights t)) q ∙ ap (λ (k : ℕ). over w k (eights t)) (sym a) ∙ o ∙ s;
      }

  pub puts_ends : length ns ≤ i → out ≡ over out₀ at (eights ns)
  unfolding eights
  puts_ends h =
      let s : over out (at + i * 8) [] ≡ over out₀ at (eights ns) = rw (done ns i h) at p.stands in
      sym (over_none out (at + i * 8)) ∙ s

-- the number that the library reads of bytes
shift : (f : ℕ → ℕ) (k : ℕ) → sum_through f (suc k) ≡ f 0 + sum_through (λ i. f (suc i)) k
shift f zero = refl
shift f (suc k) = omega (arith, shift f k)

scale : (g : ℕ → ℕ) (k : ℕ) → sum_through (λ i. byte_worth (suc i) (g i)) k ≡ sum_through (λ i. byte_worth i (g i)) k * 256
scale g zero = refl
scale g (suc k) =
    let e : 256 ^ suc (suc k) ≡ 256 ^ suc k * 256 = pow-suc 256 (suc k) in
    rw (scale g k, e) (omega arith)

worth : (bs : List ℕ) (k : ℕ) → length bs ≡ suc k → sum_through (λ i. byte_worth i (get_or bs i 0)) k ≡ value bs
unfolding value
worth [] k h = absurd (omega arith)
worth (b ∷ []) zero h = sym (zero-add b)
worth (b ∷ []) (suc k) h = absurd (omega arith)
worth (b ∷ c ∷ bs) zero h = absurd (omega arith)
worth (b ∷ c ∷ bs) (suc k) h =
    let f : ℕ → ℕ = λ i. byte_worth i (get_or (b ∷ c ∷ bs) i 0) in
    shift f k ∙ ap (λ (n : ℕ). b + n) (scale (λ i. get_or (c ∷ bs) i 0) k ∙ ap (λ (n : ℕ). n * 256) (worth (c ∷ bs) k (omega arith))) ∙ omega arith

-- the bytes from a place on
module _ (x : List ℕ) (a : ℕ) {bs : List ℕ} {n : ℕ} where
  pub four_read : bs ≡ take 4 (drop a x) → n ≡ from_le_bytes w32 bs → a + 4 ≤ length x → n ≡ value_at 4 a x
  four_read e q h = q ∙ worth bs 3 (ap length e ∙ length-take-le 4 (drop a x) (omega (arith, length-drop a x))) ∙ ap value e

  pub eight_read : bs ≡ take 8 (drop a x) → n ≡ from_le_bytes w64 bs → a + 8 ≤ length x → n ≡ value_at 8 a x
  eight_read e q h = q ∙ worth bs 7 (ap length e ∙ length-take-le 8 (drop a x) (omega (arith, length-drop a x))) ∙ ap value e
