-- `cdv::two` meets its contract: 1 and 3 of the digits.
-- Assumes nothing.
use mathlib.Core.Path.{◌≡◌, refl}
use mathlib.Core.List.{List, [], ◌∷◌}
use Prim.Native.Nat.{ℕ, ◌+◌, ◌-◌, ◌*◌, ◌%◌}
use native.Mathlib.Omega.{arith}
use lib.ListN.{get_or, drop}
use Rattle.cdv.specs.Check.{weighed, gs1}
use Rattle.cdv.proofs.Weighing.{next, digit_at}
use Rattle.cdv.proofs.two.Goals as goal

twos : (s : List ℕ) (i : ℕ) → i % 2 ≡ 0
    → weighed gs1 i (drop i s) ≡ 1 * (get_or s i 48 - 48) + (3 * (get_or s (i + 1) 48 - 48) + weighed gs1 (i + 2) (drop (i + 2) s))
twos s i z =
    let ws : List ℕ = 1 ∷ 3 ∷ [] in
    let w₁ : weighed gs1 i (drop i s) ≡ 1 * (get_or s i 48 - 48) + weighed gs1 (i + 1) (drop (i + 1) s) = next ws s i (i + 1) 0 refl z in
    let w₂ : weighed gs1 (i + 1) (drop (i + 1) s) ≡ 3 * (get_or s (i + 1) 48 - 48) + weighed gs1 (i + 2) (drop (i + 2) s) =
    next ws s (i + 1) (i + 2) 1 (omega arith) (omega arith) in
    omega arith

pub returns : goal.returns
returns c =
    let a = c.args in
    let p = digit_at a.s.now a.i c.requires.0 in
    let q = digit_at a.s.now (a.i + 1) c.requires.0 in
    let w = twos a.s.now a.i c.requires.1 in (
      omega (arith, w, p.from, q.from, c.at-a.ensures.0, c.at-b.ensures.0),
      omega (arith, p.upto, q.upto, c.at-a.ensures.0, c.at-b.ensures.0),
    )
