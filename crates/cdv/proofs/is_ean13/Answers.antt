-- `cdv::is_ean13` meets its contract: the sum, with the digits that are left, is that of all thirteen.
-- Assumes nothing.
use mathlib.Core.Path.{◌≡◌, sym, ap, ◌∙◌}
use mathlib.Core.Bool.{true}
use mathlib.Core.List.{List}
use Prim.Native.Nat.{ℕ, ◌%◌}
use native.Mathlib.Omega.{arith}
use lib.Dec.{eqb}
use lib.ListN.{length}
use borrow.Author.Tests.{eq-eqb}
use Rattle.digits.specs.Digits.{is_digits}
use Rattle.cdv.specs.Check.{weighed, gs1, is_ean13}
use Rattle.cdv.proofs.Weighing.{over}
use Rattle.cdv.proofs.is_ean13.Goals as goal

module _ (s : List ℕ) where
  by_sum : length s ≡ 13 → is_digits s ≡ true → eqb (weighed gs1 0 s % 10) 0 ≡ is_ean13 s
  unfolding is_ean13
  by_sum h e = simp (eq-eqb (length s) 13 h, e)

pub returns : goal.returns
returns c =
    let s = c.args.s.now in
    let i = c.loop-i.i in
    let o = over gs1 s i i (omega (arith, c.if-s-ne13.false, c.loop-i-test.false)) in
    let e : c.loop-i.sum ≡ weighed gs1 0 s = omega (arith, c.loop-i.invariant.whole, o) in
    c.is_tens.ensures
    ∙ ap (λ (n : ℕ). eqb (n % 10) 0) e
    ∙ by_sum s c.if-s-ne13.false (sym c.is_digits.ensures ∙ c.if-not-is_digits.false)
