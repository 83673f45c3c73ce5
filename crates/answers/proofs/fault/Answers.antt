-- `answers::fault` meets its contract: the first of the three rows.
-- Assumes nothing.
use mathlib.Core.Path.{sym, ◌∙◌}
use Rattle.answers.proofs.fault.Goals as goal

pub returns-then-not-is_same : goal.returns-then-not-is_same
returns-then-not-is_same c =
    let one = sym c.is_same.ensures ∙ c.if-not-is_same.true in
    simp one

pub returns-then-not-is_same-2 : goal.returns-then-not-is_same-2
returns-then-not-is_same-2 c =
    let two = sym c.is_same-2.ensures ∙ c.if-not-is_same-2.true in
    let one = sym c.is_same.ensures ∙ c.if-not-is_same.false in
    simp (one, two)

pub returns-then-not-goes_together : goal.returns-then-not-goes_together
returns-then-not-goes_together c =
    let three = sym c.goes_together.ensures ∙ c.if-not-goes_together.true in
    let two = sym c.is_same-2.ensures ∙ c.if-not-is_same-2.false in
    let one = sym c.is_same.ensures ∙ c.if-not-is_same.false in
    simp (one, two, three)

pub returns : goal.returns
returns c =
    let three = sym c.goes_together.ensures ∙ c.if-not-goes_together.false in
    let two = sym c.is_same-2.ensures ∙ c.if-not-is_same-2.false in
    let one = sym c.is_same.ensures ∙ c.if-not-is_same.false in
    simp (one, two, three)
