-- `cover::head::days_back` meets its contract: by the rest of the day number by seven.
-- Assumes nothing.
use mathlib.Core.Path.{◌≡◌}
use Prim.Native.Nat.{◌%◌}
use borrow.Author.Tests.{eq-eqb, ne_eqb}
use borrow.Author.Rules.{rules}
use native.Mathlib.Omega.{arith}
use Rattle.cover.proofs.Dates.{back}
use Rattle.cover.proofs.head.days_back.Goals as goal

pub returns-in-0 : goal.returns-in-0
returns-in-0 c =
    let n = c.args.n in
    simp (ne_eqb (n % 7) 1 (λ e. omega (arith, e, c.in-0.is)), eq-eqb (n % 7) 0 c.in-0.is) at (back n)

pub returns-in-1 : goal.returns-in-1
returns-in-1 c =
    let n = c.args.n in
    simp (eq-eqb (n % 7) 1 c.in-1.is) at (back n)

pub returns-in_default : goal.returns-in_default
returns-in_default c =
    let n = c.args.n in
    let z : n % 7 ≡ 0 → ⊥ = search (rules, c.in_default) in
    let o : n % 7 ≡ 1 → ⊥ = search (rules, c.in_default) in
    simp (ne_eqb (n % 7) 1 o, ne_eqb (n % 7) 0 z) at (back n)
