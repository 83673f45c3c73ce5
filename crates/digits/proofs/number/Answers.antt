-- `digits::number` meets its contract: what is read so far, with the digits that are left, is the number.
-- Assumes nothing.
use mathlib.Core.Path.{sym, ◌∙◌}
use native.Mathlib.Omega.{arith}
use lib.ListN.{get_or}
use Rattle.digits.proofs.Digit.{is_digit}
use Rattle.digits.proofs.Value.{long, ends, no, room, on}
use Rattle.digits.proofs.number.Goals as goal

pub returns-then-s-gt16 : goal.returns-then-s-gt16
returns-then-s-gt16 c = long c.args.s.now c.if-s-gt16.true

pub overflow_mul-n : goal.overflow_mul-n
overflow_mul-n c = omega (arith, room c.loop-b.invariant c.loop-b-test.true)

pub overflow_add-n : goal.overflow_add-n
overflow_add-n c =
    let d = is_digit (get_or c.args.s.now c.loop-b.b-index 0) (sym c.is_digit.ensures ∙ c.if-not-is_digit.false) in
    omega (arith, room c.loop-b.invariant c.loop-b-test.true, d)

pub returns-then-not-is_digit : goal.returns-then-not-is_digit
returns-then-not-is_digit c = no c.loop-b.invariant c.loop-b-test.true (sym c.is_digit.ensures ∙ c.if-not-is_digit.true)

pub loop-b-preserved : goal.loop-b-preserved
loop-b-preserved c = on c.loop-b.invariant c.loop-b-test.true (sym c.is_digit.ensures ∙ c.if-not-is_digit.false)

pub returns : goal.returns
returns c = ends c.loop-b.invariant c.loop-b-test.false
