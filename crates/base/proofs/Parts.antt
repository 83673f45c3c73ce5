-- Parts of a list, as code lends them: from a to e.
-- Assumes nothing.
use mathlib.Core.Path.{◌≡◌, sym, ap, ◌∙◌}
use mathlib.Core.List.{List, [], ◌∷◌}
use Prim.Native.Nat.{ℕ, zero, suc, ◌+◌, ◌-◌, ◌≤◌}
use native.Mathlib.Nat.{sub-zero, zero-sub, suc-sub-suc}
use native.Mathlib.Omega.{arith}
use lib.ListN.{length, take, drop, length-drop}
use lib.Seq.{take_all, take-nil, take-take, drop-drop, length-take-le}

-- a part from a to the end is what is left at a
pub tail : (s : List ℕ) (a : ℕ) → take (length s - a) (drop a s) ≡ drop a s
tail s a = take_all (length s - a) (drop a s) (omega (arith, length-drop a s))

-- a part from a to e has e - a elements
pub part_length : (s : List ℕ) (a e : ℕ) → a ≤ e → e ≤ length s → length (take (e - a) (drop a s)) ≡ e - a
part_length s a e h k = length-take-le (e - a) (drop a s) (omega (arith, length-drop a s))

-- what is left of a front
pub drop_take : (a w : ℕ) (l : List ℕ) → drop a (take w l) ≡ take (w - a) (drop a l)
drop_take zero w l = rw sub-zero
drop_take (suc a) zero l = simp zero-sub
drop_take (suc a) (suc w) [] = sym (take-nil (suc w - suc a))
drop_take (suc a) (suc w) (x ∷ xs) = drop_take a w xs ∙ ap (λ (n : ℕ). take n (drop a xs)) (sym (suc-sub-suc w a))

-- a part of a record that stands at a place, as code lends it from the whole
pub within : (l : List ℕ) (w p a e : ℕ) {from to : ℕ} → from ≡ p + a → to ≡ p + e → e ≤ w
    → take (to - from) (drop from l) ≡ take (e - a) (drop a (take w (drop p l)))
within l w p a e {from} {to} f t h =
    let n : to - from ≡ e - a = omega (arith, f, t) in
    let k : e - a ≤ w - a = omega arith in
    ap (λ (i : ℕ). take i (drop from l)) n
    ∙ ap (λ (i : ℕ). take (e - a) (drop i l)) f
    ∙ ap (take (e - a)) (sym (drop-drop a p l))
    ∙ sym (take-take (e - a) (w - a) (drop a (drop p l)) k)
    ∙ ap (take (e - a)) (sym (drop_take a w (drop p l)))
