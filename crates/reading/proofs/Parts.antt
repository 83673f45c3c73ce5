-- A record that is written part by part is read part by part.
-- Assumes nothing.
use mathlib.Core.Path.{◌≡◌, refl, sym, ap, ◌∙◌}
use mathlib.Core.Bool.{true}
use mathlib.Core.List.{List, [], ◌∷◌, ◌++◌, append_assoc}
use Prim.Native.Nat.{ℕ, zero, suc, ◌+◌, ◌≤◌, ◌<◌}
use native.Mathlib.Nat.{add-zero}
use native.Mathlib.Omega.{arith}
use lib.Dec.{lit<}
use lib.ListN.{length, get_or, take, drop, length-take, length-drop}
use lib.Seq.{take_at, drop_at, drop-drop, get_or-take, get_or-drop}
use borrow.Author.Tests.{le-leb}
use Rattle.base.proofs.Every.{both}
use Rattle.digits.specs.Digits.{digit, is_digits}
use Rattle.frame.specs.Records.{ending, ended}

-- bytes, and how many they are
pub record Part : Type 0 where
  pub bytes : List ℕ
  pub width : ℕ
  pub fits : length bytes ≡ width

abbrev pub part : (s : List ℕ) (n : ℕ) → length s ≡ n → Part
part s n e = record { bytes = s; width = n; fits = e }

-- the parts one after the other
abbrev pub all : List Part → List ℕ
all [] = []
all (p ∷ ps) = p.bytes ++ all ps

-- the k-th part: where it begins, how long it is, its bytes
abbrev pub start : ℕ → List Part → ℕ
start zero ps = 0
start (suc k) [] = 0
start (suc k) (p ∷ ps) = p.width + start k ps

abbrev pub width : ℕ → List Part → ℕ
width k [] = 0
width zero (p ∷ ps) = p.width
width (suc k) (p ∷ ps) = width k ps

abbrev pub bytes : ℕ → List Part → List ℕ
bytes k [] = []
bytes zero (p ∷ ps) = p.bytes
bytes (suc k) (p ∷ ps) = bytes k ps

-- it is found at its place, whatever comes after the parts
pub found : (x : List ℕ) (ps : List Part) (y : List ℕ) → x ≡ all ps ++ y → (k : ℕ) → take (width k ps) (drop (start k ps) x) ≡ bytes k ps
found x ps y e k = ap (λ (z : List ℕ). take (width k ps) (drop (start k ps) z)) e ∙ go ps k
  where
    go : (ps : List Part) (k : ℕ) → take (width k ps) (drop (start k ps) (all ps ++ y)) ≡ bytes k ps
    go [] zero = refl
    go [] (suc k) = refl
    go (p ∷ ps) zero = ap (take p.width) (append_assoc p.bytes (all ps) y) ∙ take_at p.bytes (all ps ++ y) p.width p.fits
    go (p ∷ ps) (suc k) =
        let z = (p.bytes ++ all ps) ++ y in
        let q : drop p.width z ≡ all ps ++ y =
        ap (drop p.width) (append_assoc p.bytes (all ps) y) ∙ drop_at p.bytes (all ps ++ y) p.width p.fits in
        ap (take (width k ps)) (sym (drop-drop (start k ps) p.width z) ∙ ap (drop (start k ps)) q) ∙ go ps k

-- a byte of a part
byte_at : (n m : ℕ) (x s : List ℕ) → take n (drop m x) ≡ s → (i : ℕ) → i < n → get_or x (m + i) 0 ≡ get_or s i 0
byte_at n m x s e i l = sym (get_or-drop m x i 0) ∙ sym (get_or-take n (drop m x) i 0 l) ∙ ap (λ (z : List ℕ). get_or z i 0) e

-- an ending that stands after n bytes
pub ended_at : (n : ℕ) (x : List ℕ) → take 2 (drop n x) ≡ ending → ended n x ≡ true
unfolding ended
ended_at n x e =
    let l : n + 2 ≤ length x = omega (arith, sym (length-take 2 (drop n x)) ∙ ap length e, length-drop n x) in
    let a : get_or x n 0 ≡ 0x0d = rw add-zero at (byte_at 2 n x ending e 0 (lit< tt)) in
    let b : get_or x (n + 1) 0 ≡ 0x0a = byte_at 2 n x ending e 1 (lit< tt) in
    rw (le-leb (n + 2) (length x) l, a, b)

pub digits_append : (a b : List ℕ) → is_digits a ≡ true → is_digits b ≡ true → is_digits (a ++ b) ≡ true
digits_append [] b e f = f
digits_append (x ∷ a) b e f =
    let h = both (digit x) (is_digits a) e in
    rw h.0 (digits_append a b h.1 f)
