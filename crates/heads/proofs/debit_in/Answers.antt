-- `heads::debit_in` meets its contract: a number of eight digits fits a u32.
-- Assumes nothing.
use mathlib.Core.Path.{◌≡◌, ap, ◌∙◌}
use mathlib.Core.List.{List}
use Prim.Native.Nat.{ℕ, ◌<◌}
use native.Mathlib.Omega.{arith}
use borrow.Author.Rules.{rules}
use lib.ListN.{length, take, drop, length-drop}
use lib.Seq.{length-take-le}
use Rattle.base.specs.Bytes.{field}
use Rattle.digits.specs.Digits.{number_of}
use Rattle.digits.proofs.Value.{number_lt}
use Rattle.checked.specs.Checked.{debit_found}
use Rattle.heads.proofs.debit_in.Goals as goal

small : (r : List ℕ) → length r ≡ 174 → number_of (field 23 30 r) < 100000000
small r h =
    let e : length (take 8 (drop 22 r)) ≡ 8 = length-take-le 8 (drop 22 r) (omega (arith, length-drop 22 r)) in
    rw e at (number_lt (take 8 (drop 22 r)))

pub overflow_cast-c : goal.overflow_cast-c
overflow_cast-c c = omega (arith, small c.args.r.now (search rules), c.number-c.ensures)

pub returns : goal.returns
returns c = c.debit_found.ensures ∙ ap (λ (n : ℕ). debit_found c.args.e n (field 59 66 c.args.r.now)) c.number-c.ensures
