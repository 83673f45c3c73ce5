-- `answers::goes_together` meets its contract: the bytes of the type and the answer, each compared.
-- Assumes nothing.
use mathlib.Core.Path.{◌≡◌, refl, ◌∙◌}
use mathlib.Core.Bool.{Bool, true, false, ◌&&◌, ◌||◌, and-true, or-false}
use mathlib.Core.List.{List}
use Prim.Native.Nat.{ℕ}
use native.Mathlib.Omega.{arith}
use lib.Dec.{eqb}
use lib.ListN.{length, get_or}
use borrow.Author.Rules.{rules}
use Rattle.answers.specs.Answers.{together}
use Rattle.answers.proofs.Form.{type_bytes}
use Rattle.answers.proofs.goes_together.Goals as goal

sorted : (p q r a b : Bool) → p && ((q && a) || (r && b)) ≡ (p && (q && true)) && (a || false) || ((p && (r && true)) && b || false)
sorted true q r a b = simp (and-true, or-false)
sorted false q r a b = refl

by_bytes : (it : List ℕ) → length it ≡ 70
    → eqb (get_or it 0 0) 48 && ((eqb (get_or it 1 0) 50 && eqb (get_or it 67 0) 49)
    || (eqb (get_or it 1 0) 51 && (eqb (get_or it 67 0) 48 || (eqb (get_or it 67 0) 57 || eqb (get_or it 67 0) 53))))
    ≡ together it
unfolding together
by_bytes it h =
    let x = get_or it 0 0 in
    let y = get_or it 1 0 in
    let z = get_or it 67 0 in
    simp (type_bytes it (omega (arith, h))) (sorted (eqb x 48) (eqb y 50) (eqb y 51) (eqb z 49) (eqb z 48 || (eqb z 57 || eqb z 53)) ∙ simp or-false)

pub returns : goal.returns
returns c = by_bytes c.args.item.now (search rules)
