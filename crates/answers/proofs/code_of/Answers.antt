-- `answers::code_of` meets its contract: by the search for the request and the items before.
-- Assumes nothing.
use mathlib.Core.Path.{sym, ◌∙◌}
use Rattle.answers.specs.Fedjel.{items_in}
use Rattle.answers.proofs.Codes.{unknown, repeated, first_one}
use Rattle.answers.proofs.code_of.Goals as goal

pub returns-in_default : goal.returns-in_default
returns-in_default c =
    let a = c.args in
    unknown a.list.now (items_in a.earlier.now) a.item.now c.find.ensures c.in_default.is

pub returns-then-is_some : goal.returns-then-is_some
returns-then-is_some c =
    let a = c.args in
    let s = sym c.is_some.ensures ∙ c.if-is_some.true in
    repeated a.list.now (items_in a.earlier.now) a.item.now c.find.ensures c.in-Some.is c.as_chunks.ensures.front c.first_right.ensures s

pub returns : goal.returns
returns c =
    let a = c.args in
    let s = sym c.is_some.ensures ∙ c.if-is_some.false in
    first_one a.list.now (items_in a.earlier.now) a.item.now c.find.ensures c.in-Some.is c.as_chunks.ensures.front c.first_right.ensures s c.fault.ensures
