-- `digits::fits` meets its contract: what is left has no more digits than are left exactly when the whole has no more than w.
-- Assumes nothing.
use mathlib.Core.Path.{◌≡◌, refl, sym, ◌∙◌}
use mathlib.Core.Bool.{Bool, true, false}
use Prim.Native.Nat.{ℕ, zero, suc, ◌+◌, ◌-◌, ◌*◌, ◌/◌, ◌^◌, ◌≤◌, ◌<◌}
use native.Mathlib.Nat.{pow-suc, one-le-pow, div-lt_iff_lt-mul}
use native.Mathlib.Omega.{arith}
use lib.Dec.{ltb, eqb, lit<}
use borrow.Author.Tests.{lt-ltb, le-ltb, ne_eqb, ltb-true, ltb-false}
use Rattle.digits.proofs.fits.Goals as goal

tenth : (x k : ℕ) → (t : Bool) → ltb x (10 ^ suc k) ≡ t → ltb (x / 10) (10 ^ k) ≡ t
tenth x k true e =
    let h : x < 10 ^ k * 10 = rw pow-suc at (ltb-true x (10 ^ suc k) e) in
    lt-ltb (x / 10) (10 ^ k) ((div-lt_iff_lt-mul (lit< tt)).1 h)
tenth x k false e =
    let h : 10 ^ k * 10 ≤ x = rw pow-suc at (ltb-false x (10 ^ suc k) e) in
    le-ltb (x / 10) (10 ^ k) (omega arith)

below_one : (x : ℕ) → eqb x 0 ≡ ltb x 1
below_one zero = refl
below_one (suc x) = ne_eqb (suc x) 0 (λ e. omega arith) ∙ sym (le-ltb (suc x) 1 (omega arith))

module _ (n w left i : ℕ) (p : ltb left (10 ^ (w - i)) ≡ ltb n (10 ^ w)) where
  none : left ≡ 0 → true ≡ ltb n (10 ^ w)
  none e =
      let h : 1 ≤ 10 ^ (w - i) = one-le-pow (w - i) 10 (lit< tt) in
      sym (lt-ltb left (10 ^ (w - i)) (omega arith)) ∙ p

  on : i < w → ltb (left / 10) (10 ^ (w - (i + 1))) ≡ ltb n (10 ^ w)
  on h =
      let e : w - i ≡ suc (w - (i + 1)) = omega arith in
      tenth left (w - (i + 1)) _ (simp e at p)

  ends : w ≤ i → eqb left 0 ≡ ltb n (10 ^ w)
  ends h =
      let e : w - i ≡ 0 = omega arith in
      below_one left ∙ (simp e at p)

pub returns-then-left-eq0 : goal.returns-then-left-eq0
returns-then-left-eq0 c = none c.args.n c.args.w c.loop.left c.loop.counter c.loop.invariant c.if-left-eq0.true

pub loop-preserved : goal.loop-preserved
loop-preserved c = on c.args.n c.args.w c.loop.left c.loop.counter c.loop.invariant c.loop-test.true

pub returns : goal.returns
returns c = ends c.args.n c.args.w c.loop.left c.loop.counter c.loop.invariant c.loop-test.false
