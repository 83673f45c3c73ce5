-- `cdv::satisfies` meets its contract: no digit is left after the eighth or the sixteenth.
-- Assumes nothing.
use mathlib.Core.Path.{◌≡◌, sym, ap, ◌∙◌}
use mathlib.Core.Bool.{Bool, true}
use mathlib.Core.List.{List}
use Prim.Native.Nat.{ℕ, ◌+◌, ◌%◌}
use native.Mathlib.Omega.{arith}
use lib.Dec.{eqb}
use Rattle.digits.specs.Digits.{is_digits}
use Rattle.cdv.specs.Check.{weighed, cdv, satisfies}
use Rattle.cdv.proofs.Weighing.{over, by_sum}
use Rattle.cdv.proofs.satisfies.Goals as goal

-- a sum that is that of all digits
summed : (s : List ℕ) → is_digits s ≡ true → {r : Bool} (n : ℕ) → r ≡ eqb (n % 10) 0 → n ≡ weighed cdv 0 s → r ≡ satisfies s
summed s e n q p = q ∙ ap (λ (m : ℕ). eqb (m % 10) 0) p ∙ by_sum s e

pub returns-then-s-eq8 : goal.returns-then-s-eq8
returns-then-s-eq8 c =
    let s = c.args.s.now in
    summed s (sym c.is_digits.ensures ∙ c.if-not-is_digits.false) c.eight.result c.is_tens.ensures
    (omega (arith, c.eight.ensures.0, over cdv s 8 8 (omega (arith, c.if-s-eq8.true))))

pub returns-then-s-eq16 : goal.returns-then-s-eq16
returns-then-s-eq16 c =
    let s = c.args.s.now in
    summed s (sym c.is_digits.ensures ∙ c.if-not-is_digits.false) (c.eight-then-s-eq16.result + c.eight-then-s-eq16-2.result)
    c.is_tens-then-s-eq16.ensures
    (omega (arith, c.eight-then-s-eq16.ensures.0, c.eight-then-s-eq16-2.ensures.0, over cdv s 16 16 (omega (arith, c.if-s-eq16.true))))
