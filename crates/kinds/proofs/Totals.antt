-- A foot has no fault exactly where its count and its sum are digits and what the items give.
-- Assumes nothing.
use mathlib.Core.Path.{◌≡◌, refl}
use mathlib.Core.Bool.{Bool, true, false, cond, ◌&&◌}
use mathlib.Core.List.{List}
use Prim.Native.Nat.{ℕ}
use native.Mathlib.Omega.{arith}
use lib.Dec.{eqb}
use lib.ListN.{length}
use borrow.Author.Tests.{eq-eqb, eqb-true}
use Rattle.base.specs.Bytes.{field}
use Rattle.digits.specs.Digits.{number_of}
use Rattle.frame.specs.Machine.{earlier}
use Rattle.fields.specs.Fields.{digits_of, total_code}
use Rattle.kinds.specs.Codes.{foot_code}
use Rattle.kinds.specs.Faultless.{Says}
use Rattle.findings.proofs.Row.{neither}

-- a total without a fault is digits, and what the items give
module _ (n want code : ℕ) (s : List ℕ) where
  total_says : (code ≡ 0 → ⊥) → total_code n want code s ≡ 0 → Says n s want
  total_says f = go (digits_of n s) (eqb (number_of s) want) refl refl
    where
      go : (p q : Bool) → digits_of n s ≡ p → eqb (number_of s) want ≡ q → cond (p && q) 0 code ≡ 0 → Says n s want
      go true true d e h = (d, eqb-true (number_of s) want e)
      go true false d e h = absurd (f h)
      go false q d e h = absurd (f h)

  total_right : Says n s want → total_code n want code s ≡ 0
  total_right h = rw (h.0, eq-eqb (number_of s) want h.1)

not_broken : (t : Bool) (c : ℕ) → cond t c 26 ≡ 0 → c ≡ 0
not_broken true c e = e
not_broken false c e = absurd (omega arith)

module _ (count sum : ℕ) (r : List ℕ) where
  pub foot_says : foot_code count sum r ≡ 0 → Says 6 (field 3 8 r) count × Says 16 (field 9 24 r) sum
  unfolding foot_code
  foot_says e =
      let c = total_code 6 count 18 (field 3 8 r) in
      let d = total_code 16 sum 19 (field 9 24 r) in
      let h = neither c (earlier d 0) (not_broken (eqb (length r) 24) (earlier c (earlier d 0)) e) in
      let g = neither d 0 h.1 in
      (total_says 6 count 18 (field 3 8 r) (λ z. omega arith) h.0, total_says 16 sum 19 (field 9 24 r) (λ z. omega arith) g.0)

  pub foot_right_lem : length r ≡ 24 → Says 6 (field 3 8 r) count → Says 16 (field 9 24 r) sum → foot_code count sum r ≡ 0
  unfolding foot_code
  foot_right_lem h p q = rw (eq-eqb (length r) 24 h, total_right 6 count 18 (field 3 8 r) p, total_right 16 sum 19 (field 9 24 r) q)
