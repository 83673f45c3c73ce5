-- `cdv::any` meets its contract: the sum keeps its last digit as it is brought down, and with the digits that are left it decides.
-- Assumes nothing.
use mathlib.Core.Path.{◌≡◌, ap, ◌∙◌}
use mathlib.Core.List.{List}
use Prim.Native.Nat.{ℕ, ◌+◌, ◌%◌, ◌≤◌, ◌<◌}
use native.Mathlib.Omega.{arith}
use lib.Dec.{eqb}
use lib.ListN.{length, drop}
use Rattle.cdv.specs.Check.{weighed, cdv}
use Rattle.cdv.proofs.Weighing.{over, by_sum}
use Rattle.cdv.proofs.any.Invariants.{Eights}
use Rattle.cdv.proofs.any.Goals.{else-loop-i-test, then-loop-i-test+else-i-end-i-gt8}
use Rattle.cdv.proofs.any.Goals as goal

-- the sum of all digits, brought down
record Summed (s : List ℕ) (sum : ℕ) : Type 0 where
  last : sum % 10 ≡ weighed cdv 0 s % 10
  below : sum < 720

module _ {s : List ℕ} {sum i : ℕ} (w : Eights s sum i) where
  -- nothing was left, or the last eight digits at most
  none : length s ≤ i → Summed s sum
  none h = record { last = omega (arith, w.whole, over cdv s i i h); below = w.small }

  one_more : {a b : ℕ} → (a % 10 ≡ sum % 10) × (a < 360)
      → (weighed cdv i (drop i s) ≡ b + weighed cdv (i + 8) (drop (i + 8) s)) × (b ≤ 360) → length s ≤ i + 8 → Summed s (a + b)
  one_more p q h = record { last = omega (arith, w.whole, p.0, q.0, over cdv s (i + 8) (i + 8) h); below = omega (arith, p.1, q.1) }

pub is_tens-requires : goal.is_tens-requires
is_tens-requires c =
    let e : Summed c.args.s.now c.loop-i-test.sum =
    elim c.loop-i-test.branch [
      | else-loop-i-test w ↦ rw w.sum-is (none c.loop-i.invariant w.loop-i-test.false)
      | then-loop-i-test+else-i-end-i-gt8 w ↦ rw w.sum-is (one_more c.loop-i.invariant w.less.ensures w.eight.ensures (omega arith))
    ] in
    omega (arith, e.below)

pub returns : goal.returns
returns c =
    let s = c.args.s.now in
    let e : Summed s c.loop-i-test.sum =
    elim c.loop-i-test.branch [
      | else-loop-i-test w ↦ rw w.sum-is (none c.loop-i.invariant w.loop-i-test.false)
      | then-loop-i-test+else-i-end-i-gt8 w ↦ rw w.sum-is (one_more c.loop-i.invariant w.less.ensures w.eight.ensures (omega arith))
    ] in
    c.is_tens.ensures ∙ ap (λ (n : ℕ). eqb n 0) e.last ∙ by_sum s c.requires
