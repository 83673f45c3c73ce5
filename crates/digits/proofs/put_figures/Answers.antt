-- `digits::put_figures` meets its contract: the digits that are left to write, before what stands, are all of them before what stood.
-- Assumes nothing.
use mathlib.Core.Path.{◌≡◌, sym, ◌∙◌}
use mathlib.Core.List.{List, ◌∷◌}
use Prim.Native.Nat.{ℕ, suc, ◌+◌, ◌-◌, ◌/◌, ◌%◌, ◌≤◌, ◌<◌}
use native.Mathlib.Nat.{zero-add}
use native.Mathlib.Omega.{arith}
use lib.ListN.{length, set, drop, length-set}
use lib.Seq.{drop-cons, get_or-set_same, drop-set-lt, lt-length-set, append_snoc}
use Rattle.base.specs.Bytes.{over}
use Rattle.digits.specs.Digits.{figures}
use Rattle.digits.proofs.Figures.{figures_length}
use Rattle.digits.proofs.put_figures.Invariants.{Put}
use Rattle.digits.proofs.put_figures.Goals as goal

drop_set : (l : List ℕ) (j v : ℕ) → j < length l → drop j (set l j v) ≡ v ∷ drop (suc j) l
drop_set l j v h = drop-cons (set l j v) j 0 (lt-length-set l j v h) ∙ simp (get_or-set_same l j v 0 h, drop-set-lt (suc j) l j v (omega arith))

module _ {out₀ : List ℕ} {w n : ℕ} {out : List ℕ} {left : ℕ} where
  on_suc : (j : ℕ) → suc j ≤ length out → Put out₀ w n out left (suc j) → Put out₀ w n (set out j (48 + left % 10)) (left / 10) j
  unfolding figures
  on_suc j h p = record {
    long = length-set out j (48 + left % 10) ∙ p.long;
    room = p.room;
    stands = simp (drop_set out j (48 + left % 10) (omega arith)) (sym (append_snoc (figures j (left / 10)) (48 + left % 10) (drop (suc j) out)) ∙ p.stands);
  }

  module _ {i : ℕ} (p : Put out₀ w n out left i) where
    on : 0 < i → i ≤ w → Put out₀ w n (set out (i - 1) (48 + left % 10)) (left / 10) (i - 1)
    on h k =
        let e : i ≡ suc (i - 1) = omega arith in
        on_suc (i - 1) (omega (arith, p.long, p.room)) (rw e at p)

    ends : i ≤ 0 → out ≡ over out₀ 0 (figures w n)
    unfolding over figures
    ends h =
        let e : i ≡ 0 = omega arith in
        let l : length (figures w n) ≡ w = figures_length w n in
        simp (l, zero-add) (simp e at p.stands)

pub loop-i-preserved : goal.loop-i-preserved
loop-i-preserved c = on c.loop-i.invariant c.loop-i-test.true (omega arith)

pub returns : goal.returns
returns c = ends c.loop-i.invariant c.loop-i-test.false
