-- Laws of writing over a part of a list.
--     length_over    the list keeps its length
--     over_none      nothing written changes nothing
--     over_over      one after the other is both at once
--     over_set       one element more
--     part           what was written over the front of a part that was lent, said of the whole
-- Assumes nothing.
use mathlib.Core.Path.{◌≡◌, sym, ap, ◌∙◌}
use mathlib.Core.List.{List, [], ◌∷◌, ◌++◌, append_assoc, append-nil}
use Prim.Native.Nat.{ℕ, ◌+◌, ◌-◌, ◌≤◌, ◌<◌}
use native.Mathlib.Nat.{zero-add, add-zero, add_assoc}
use native.Mathlib.Numerals.{add-one}
use native.Mathlib.Omega.{arith}
use lib.ListN.{length, set, take, drop, length-append, length-drop, drop_of_length-le, take-append-drop}
use lib.Seq.{length-take-le, take_at, drop_at, drop-drop, set_split, append_snoc}
use borrow.Rule.Slice.PartMut.{put_mid}
use Rattle.base.specs.Bytes.{over}
use Rattle.base.proofs.Parts.{tail}

pub length_over : (xs : List ℕ) (a : ℕ) (d : List ℕ) → a + length d ≤ length xs → length (over xs a d) ≡ length xs
unfolding over
length_over xs a d h =
    let t : length (take a xs) ≡ a = length-take-le a xs (omega arith) in
    simp (length-append, length-drop, t) (omega arith)

pub over_none : (xs : List ℕ) (a : ℕ) → over xs a [] ≡ xs
unfolding over
over_none xs a = simp (append-nil, add-zero) (take-append-drop a xs)

pub over_over : (xs : List ℕ) (a : ℕ) (d e : List ℕ) → a + length d + length e ≤ length xs → over (over xs a d) (a + length d) e ≡ over xs a (d ++ e)
unfolding over
over_over xs a d e h =
    let t : length (take a xs) ≡ a = length-take-le a xs (omega arith) in
    let p = take a xs ++ d in
    let q = drop (a + length d) xs in
    let l : length p ≡ a + length d = simp (length-append, t) in
    let f : take (a + length d) (p ++ q) ≡ p = take_at p q (a + length d) l in
    let g : drop (a + length d + length e) (p ++ q) ≡ drop (a + length d + length e) xs =
    sym (drop-drop (length e) (a + length d) (p ++ q)) ∙ ap (drop (length e)) (drop_at p q (a + length d) l) ∙ drop-drop (length e) (a + length d) xs in
    simp (f, g) (simp (length-append, append_assoc, add_assoc))

-- one element is set
set_over : (xs : List ℕ) (i x : ℕ) → i < length xs → set xs i x ≡ over xs i (x ∷ [])
unfolding over
set_over xs i x h = simp (add-one, append_snoc) (set_split xs i x h)

pub over_set : (xs : List ℕ) (a : ℕ) (d : List ℕ) (x : ℕ) → a + length d < length xs → set (over xs a d) (a + length d) x ≡ over xs a (d ++ (x ∷ []))
over_set xs a d x h =
    let l = length_over xs a d (omega arith) in
    set_over (over xs a d) (a + length d) x (omega arith) ∙ over_over xs a d (x ∷ []) (omega arith)

pub part : (xs : List ℕ) (a : ℕ) (d ys : List ℕ) → a + length d ≤ length xs → ys ≡ over (take (length xs - a) (drop a xs)) 0 d
    → put_mid a (length xs - a) xs ys ≡ over xs a d
unfolding over
part xs a d ys h e =
    let k : length (drop a xs) ≤ length xs - a = omega (arith, length-drop a xs) in
    let z : drop (length xs - a) (drop a xs) ≡ [] = drop_of_length-le (drop a xs) k in
    simp (e, tail xs a, z, zero-add, drop-drop, append_assoc) (ap (λ (l : List ℕ). take a xs ++ (d ++ l)) (append-nil (drop (a + length d) xs)))
