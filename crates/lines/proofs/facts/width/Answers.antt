-- `lines::facts::width` meets its contract: places enough for the number.
-- Assumes nothing.
use mathlib.Core.Path.{◌≡◌}
use mathlib.Core.Logic.{⊎_elim}
use Prim.Native.Nat.{ℕ, ◌+◌, ◌^◌, ◌<◌, ◌≤◌}
use native.Mathlib.Nat.{pow-le-pow_right}
use native.Mathlib.Omega.{arith}
use lib.Dec.{lit<}
use borrow.Author.Tests.{lt-ltb, le-ltb}
use borrow.Author.Rules.{rules}
use Rattle.calendar.proofs.Numbers.{lt_or_le}
use Rattle.lines.specs.Slip.{places}
use Rattle.lines.specs.Facts.{wide}
use Rattle.lines.proofs.facts.width.Goals as goal

module _ (least n w m : ℕ) (e : w ≡ places n) (f : w ≤ 20) (g : n < 10 ^ w) (low : w < least → m ≡ least) (high : least ≤ w → m ≡ w) where
  enough : (m ≡ wide least n) × (m ≤ least + 20) × (n < 10 ^ m)
  enough =
      ⊎_elim (λ (h : w < least).
      let p : 10 ^ w ≤ 10 ^ least = pow-le-pow_right (lit< tt) (omega arith) in
      rw (low h) (simp (← e, lt-ltb w least h), omega arith, omega arith))
      (λ (h : least ≤ w). rw (high h) (simp (← e, le-ltb w least h), omega arith, g))
      (lt_or_le w least)

pub returns : goal.returns
returns c =
    let a = c.args in
    let p = c.places.ensures in
    enough a.least a.n c.places.result c.max.result p.0 p.1 p.2 (λ h. search rules) (λ h. search rules)
