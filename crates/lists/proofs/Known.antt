-- An identifier in parts: two lists are the same where their first n elements are and what follows is.
-- Assumes nothing.
use mathlib.Core.Path.{◌≡◌, refl, ap, ◌∙◌}
use mathlib.Core.Bool.{Bool, ◌&&◌, and_assoc}
use mathlib.Core.List.{List, [], ◌∷◌}
use Prim.Native.Nat.{ℕ, zero, suc, ◌+◌, ◌≤◌}
use native.Mathlib.Omega.{arith}
use lib.Dec.{eqb}
use lib.ListN.{length, take, drop, length-drop}
use lib.Seq.{drop-drop, take_all}
use Rattle.base.specs.Bytes.{same}

cut : (n : ℕ) (s t : List ℕ) → n ≤ length s → n ≤ length t → same (take n s) (take n t) && same (drop n s) (drop n t) ≡ same s t
cut zero s t h k = refl
cut (suc n) [] t h k = absurd (omega arith)
cut (suc n) (x ∷ s) [] h k = absurd (omega arith)
cut (suc n) (x ∷ s) (y ∷ t) h k =
    and_assoc (eqb x y) (same (take n s) (take n t)) (same (drop n s) (drop n t))
    ∙ ap (λ (b : Bool). eqb x y && b) (cut n s t (omega arith) (omega arith))

-- the n elements from place a on, and what follows
next : (a n : ℕ) (s t : List ℕ) → a + n ≤ length s → a + n ≤ length t
    → same (take n (drop a s)) (take n (drop a t)) && same (drop (a + n) s) (drop (a + n) t) ≡ same (drop a s) (drop a t)
next a n s t h k =
    rw (← drop-drop n a s, ← drop-drop n a t)
    (cut n (drop a s) (drop a t) (omega (arith, h, length-drop a s)) (omega (arith, k, length-drop a t)))

-- 25 bytes as 4, 8, 8 and 5
pub in_parts : (s t : List ℕ) → length s ≡ 25 → length t ≡ 25
    → same (take 4 s) (take 4 t)
    && (same (take 8 (drop 4 s)) (take 8 (drop 4 t))
    && (same (take 8 (drop 12 s)) (take 8 (drop 12 t)) && same (take 5 (drop 20 s)) (take 5 (drop 20 t))))
    ≡ same s t
in_parts s t h k =
    let last : (l : List ℕ) → length l ≡ 25 → take 5 (drop 20 l) ≡ drop 20 l =
    λ l e. take_all 5 (drop 20 l) (omega (arith, e, length-drop 20 l)) in
    rw (last s h, last t k)
    (ap
    (λ (b : Bool). same (take 4 s) (take 4 t) && (same (take 8 (drop 4 s)) (take 8 (drop 4 t)) && b))
    (next 12 8 s t (omega arith) (omega arith))
    ∙ ap (λ (b : Bool). same (take 4 s) (take 4 t) && b) (next 4 8 s t (omega arith) (omega arith))
    ∙ cut 4 s t (omega arith) (omega arith))
