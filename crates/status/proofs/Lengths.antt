-- How long the records of a STATUS are: the head 56 bytes with its ending, each reference 65, the foot 48; and a FEDSTA, 104.
-- Assumes nothing.
use mathlib.Core.Path.{◌≡◌, refl}
use mathlib.Core.List.{List, [], ◌∷◌}
use Prim.Native.Nat.{ℕ, zero, suc, ◌+◌, ◌*◌, ◌≤◌}
use native.Mathlib.Omega.{arith}
use lib.ListN.{length, take, drop, length-append, length-drop}
use lib.Seq.{length-take-le}
use Rattle.base.specs.Bytes.{ascii}
use Rattle.base.specs.Each.{Each}
use Rattle.digits.proofs.Figures.{figures_length}
use Rattle.frame.specs.declared.Status.{Status}
use Rattle.status.specs.Records.{head_record, reference, references, foot_record, written}
use Rattle.status.specs.CoverStatus.{fedsta_bytes}

-- each is an item of 249 bytes
abbrev pub Items : List (List ℕ) → Type 0
Items = Each (λ r. length r ≡ 249)

-- so are the first of them
pub items_take : (n : ℕ) (rs : List (List ℕ)) → Items rs → Items (take n rs)
items_take zero rs h = tt
items_take (suc n) [] h = tt
items_take (suc n) (r ∷ rs) h = (h.0, items_take n rs h.1)

pub head_length : (kind : List ℕ) (s : Status) → length kind ≡ 6 → length s.id ≡ 25 → length (head_record kind s) ≡ 56
unfolding head_record
head_length kind s k h = simp (length-append, figures_length, k, h)

pub reference_length : (k c : ℕ) (r : List ℕ) → length r ≡ 249 → length (reference k c r) ≡ 65
unfolding reference
reference_length k c r h =
    let f : length (take 24 (drop 50 r)) ≡ 24 = length-take-le 24 (drop 50 r) (omega (arith, length-drop 50 r)) in
    simp (length-append, figures_length, f)

pub references_length : (k : ℕ) (cs : List ℕ) (rs : List (List ℕ)) → length rs ≤ length cs → Items rs → length (references k cs rs) ≡ 65 * length rs
unfolding references
references_length k [] [] e h = refl
references_length k [] (r ∷ rs) e h = absurd (omega arith)
references_length k (c ∷ cs) [] e h = refl
references_length k (c ∷ cs) (r ∷ rs) e h =
    let f = reference_length k c r h.0 in
    let g = references_length (k + 1) cs rs (omega arith) h.1 in
    simp (length-append, f, g) (omega arith)

pub foot_length : (s : Status) → length (foot_record s) ≡ 48
unfolding foot_record
foot_length s = simp (length-append, figures_length)

pub written_length : (s : Status) (cs : List ℕ) (rs : List (List ℕ)) → length s.id ≡ 25 → length cs ≡ length rs → Items rs
    → length (written s cs rs) ≡ 104 + 65 * length rs
unfolding written
written_length s cs rs h e l =
    let f = head_length (ascii "STATUS") s refl h in
    let g = references_length 1 cs rs (omega (arith, e)) l in
    let k = foot_length s in
    simp (length-append, f, g, k) (omega arith)

pub fedsta_length : (s : Status) → length s.id ≡ 25 → length (fedsta_bytes s) ≡ 104
unfolding fedsta_bytes
fedsta_length s h =
    let f = head_length (ascii "FEDSTA") s refl h in
    let k = foot_length s in
    simp (length-append, f, k)
