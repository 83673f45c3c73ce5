-- `cdv::eight` meets its contract: doubling gives 9, 7, 3 and 1 of the digits at the four places.
-- Assumes nothing.
use mathlib.Core.Path.{◌≡◌, refl}
use mathlib.Core.Bool.{true}
use mathlib.Core.List.{List, [], ◌∷◌}
use Prim.Native.Nat.{ℕ, ◌+◌, ◌-◌, ◌*◌, ◌%◌, ◌≤◌}
use native.Mathlib.Omega.{arith}
use lib.ListN.{get_or, drop}
use Rattle.digits.specs.Digits.{is_digits}
use Rattle.cdv.specs.Check.{weighed, cdv}
use Rattle.cdv.proofs.Weighing.{next, digit_at}
use Rattle.cdv.proofs.eight.Goals as goal

module _ (s : List ℕ) (i j k l m : ℕ) where
  -- what four bytes weigh
  abbrev four : ℕ
  four = 9 * get_or s i 48 + 7 * get_or s j 48 + 3 * get_or s k 48 + get_or s l 48

  record Four : Type 0 where
    least : 960 ≤ four
    most : four ≤ 1140
    weight : weighed cdv i (drop i s) ≡ four - 960 + weighed cdv m (drop m s)

  fours : is_digits s ≡ true → i % 4 ≡ 0 → i + 1 ≡ j → i + 2 ≡ k → i + 3 ≡ l → i + 4 ≡ m → Four
  fours e z p q r t =
      let ws : List ℕ = 9 ∷ 7 ∷ 3 ∷ 1 ∷ [] in
      let a = digit_at s i e in
      let b = digit_at s j e in
      let c = digit_at s k e in
      let d = digit_at s l e in
      let w₁ : weighed cdv i (drop i s) ≡ 9 * (get_or s i 48 - 48) + weighed cdv j (drop j s) = next ws s i j 0 p z in
      let w₂ : weighed cdv j (drop j s) ≡ 7 * (get_or s j 48 - 48) + weighed cdv k (drop k s) = next ws s j k 1 (omega arith) (omega arith) in
      let w₃ : weighed cdv k (drop k s) ≡ 3 * (get_or s k 48 - 48) + weighed cdv l (drop l s) = next ws s k l 2 (omega arith) (omega arith) in
      let w₄ : weighed cdv l (drop l s) ≡ 1 * (get_or s l 48 - 48) + weighed cdv m (drop m s) = next ws s l m 3 (omega arith) (omega arith) in
      record { least = omega arith; most = omega arith; weight = omega arith }

module _ (s : List ℕ) (i : ℕ) where
  -- what eight bytes weigh, those at the same place of the cycle added up
  abbrev eight : ℕ
  eight =
      (get_or s i 48 + get_or s (i + 4) 48) * 9 + (get_or s (i + 1) 48 + get_or s (i + 5) 48) * 7
      + (get_or s (i + 2) 48 + get_or s (i + 6) 48) * 3 + (get_or s (i + 3) 48 + get_or s (i + 7) 48)

  record Eight (r : ℕ) : Type 0 where
    least : 1920 ≤ r
    most : r - 1920 ≤ 360
    weight : weighed cdv i (drop i s) ≡ r - 1920 + weighed cdv (i + 8) (drop (i + 8) s)

  eights : is_digits s ≡ true → i % 4 ≡ 0 → {r : ℕ} → r ≡ eight → Eight r
  eights e z q =
      let a = fours s i (i + 1) (i + 2) (i + 3) (i + 4) e z refl refl refl refl in
      let b = fours s (i + 4) (i + 5) (i + 6) (i + 7) (i + 8) e (omega arith) (omega arith) (omega arith) (omega arith) (omega arith) in
      record { least = omega arith; most = omega arith; weight = omega arith }

pub overflow_sub-result : goal.overflow_sub-result
overflow_sub-result c =
    let r = simp (
      c.at.ensures.0,
      c.at-2.ensures.0,
      c.at-3.ensures.0,
      c.at-4.ensures.0,
      c.at-5.ensures.0,
      c.at-6.ensures.0,
      c.at-7.ensures.0,
      c.at-8.ensures.0,
    ) at c.weigh.ensures in
    (eights c.args.s.now c.args.i c.requires.0 c.requires.1 r).least

pub returns : goal.returns
returns c =
    let r = simp (
      c.at.ensures.0,
      c.at-2.ensures.0,
      c.at-3.ensures.0,
      c.at-4.ensures.0,
      c.at-5.ensures.0,
      c.at-6.ensures.0,
      c.at-7.ensures.0,
      c.at-8.ensures.0,
    ) at c.weigh.ensures in
    let e = eights c.args.s.now c.args.i c.requires.0 c.requires.1 r in
    (e.weight, e.most)
