-- References one after the other: one more at the end, and their codes counted.
-- Assumes nothing.
use mathlib.Core.Path.{◌≡◌, refl, ap, ◌∙◌}
use mathlib.Core.Bool.{Bool, true, false, cond, ◌&&◌, and-true, and_assoc}
use mathlib.Core.List.{List, [], ◌∷◌, ◌++◌, map, map-append}
use Prim.Native.Nat.{ℕ, zero, suc, ◌+◌, ◌-◌, ◌*◌, ◌≤◌}
use native.Mathlib.Nat.{add-zero}
use native.Mathlib.Numerals.{add-one}
use native.Mathlib.Omega.{arith}
use lib.Dec.{eqb}
use lib.ListN.{length, take, drop, length-map}
use lib.Seq.{drop-drop}
use Rattle.base.specs.Bytes.{field}
use Rattle.base.proofs.Parts.{tail}
use Rattle.digits.specs.Digits.{number_of}
use Rattle.reading.specs.Checking.{reference_at}
use Rattle.reading.specs.Reading.{count_of, parts_of, foot_in, reference_right, references_right, zeros_in, others_in}

-- n parts are n
pub parts_length : (n : ℕ) (x : List ℕ) → length (parts_of n x) ≡ n
unfolding parts_of
parts_length zero x = refl
parts_length (suc n) x = ap suc (parts_length n (drop 65 x))

-- one part more
parts_suc : (n : ℕ) (x : List ℕ) → parts_of (suc n) x ≡ parts_of n x ++ (take 65 (drop (65 * n) x) ∷ [])
unfolding parts_of
parts_suc zero x = refl
parts_suc (suc n) x =
    let m : 65 + 65 * n ≡ 65 * suc n = omega arith in
    let e : drop (65 * n) (drop 65 x) ≡ drop (65 * suc n) x = rw (drop-drop, m) in
    ap (λ (l : List (List ℕ)). take 65 x ∷ l) (rw e at (parts_suc n (drop 65 x)))

-- the foot as code lends it
pub foot_lent : (x : List ℕ) {m : ℕ} → m ≡ count_of x → take (length x - (56 + 65 * m)) (drop (56 + 65 * m) x) ≡ foot_in x
foot_lent x {m} e = rw e (tail x (56 + 65 * count_of x))

module _ (x : List ℕ) (i : ℕ) where
  -- the first i references, and the next
  abbrev pub first : List (List ℕ)
  first = parts_of i (drop 56 x)

  abbrev pub next : List ℕ
  next = reference_at i x

  pub first_on : parts_of (i + 1) (drop 56 x) ≡ first ++ (next ∷ [])
  first_on = rw add-one (parts_suc i (drop 56 x) ∙ ap (λ (y : List ℕ). first ++ (take 65 y ∷ [])) (drop-drop (65 * i) 56 x))

abbrev pub code_of : List ℕ → ℕ
code_of r = number_of (field 9 10 r)

-- the codes of the first i references
abbrev pub first_codes : List ℕ → ℕ → List ℕ
first_codes x i = map code_of (first x i)

pub codes_on : (x : List ℕ) (i : ℕ) → first_codes x (i + 1) ≡ first_codes x i ++ (code_of (next x i) ∷ [])
codes_on x i = ap (map code_of) (first_on x i) ∙ map-append code_of (first x i) (next x i ∷ [])

pub codes_length : (x : List ℕ) (i : ℕ) → length (first_codes x i) ≡ i
codes_length x i = length-map (first x i) code_of ∙ parts_length i (drop 56 x)

zeros_snoc : (cs : List ℕ) (c : ℕ) → zeros_in (cs ++ (c ∷ [])) ≡ zeros_in cs + cond (eqb c 0) 1 0
zeros_snoc [] c = omega arith
zeros_snoc (d ∷ cs) c = omega (arith, zeros_snoc cs c)

-- one more is counted
pub zeros_on : (x : List ℕ) (i : ℕ) → zeros_in (first_codes x (i + 1)) ≡ zeros_in (first_codes x i) + cond (eqb (code_of (next x i)) 0) 1 0
zeros_on x i = ap zeros_in (codes_on x i) ∙ zeros_snoc (first_codes x i) (code_of (next x i))

right_snoc : (k : ℕ) (rs : List (List ℕ)) (r : List ℕ) → references_right k (rs ++ (r ∷ [])) ≡ references_right k rs && reference_right (k + length rs) r
unfolding references_right
right_snoc k [] r = rw (and-true, add-zero)
right_snoc k (s ∷ rs) r =
    let e : k + 1 + length rs ≡ k + suc (length rs) = omega arith in
    rw (right_snoc (k + 1) rs r, e, and_assoc)

-- one more is right
pub right_on : (x : List ℕ) (i : ℕ) → references_right 1 (parts_of (i + 1) (drop 56 x)) ≡ references_right 1 (first x i) && reference_right (i + 1) (next x i)
right_on x i =
    let e : 1 + length (first x i) ≡ i + 1 = omega (arith, parts_length i (drop 56 x)) in
    ap (references_right 1) (first_on x i) ∙ right_snoc 1 (first x i) (next x i)
    ∙ ap (λ (k : ℕ). references_right 1 (first x i) && reference_right k (next x i)) e

-- a code is 00 or another
pub zeros_others : (cs : List ℕ) → zeros_in cs + others_in cs ≡ length cs
zeros_others [] = refl
zeros_others (c ∷ cs) = go (eqb c 0) (zeros_others cs)
  where
    go : (b : Bool) → zeros_in cs + others_in cs ≡ length cs → cond b 1 0 + zeros_in cs + (cond b 0 1 + others_in cs) ≡ suc (length cs)
    go true e = omega arith
    go false e = omega arith

-- so no more are 00 than there are
pub zeros_few : (cs : List ℕ) → zeros_in cs ≤ length cs
zeros_few cs = omega (arith, zeros_others cs)
