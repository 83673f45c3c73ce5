-- `cover::codes::code_with` meets its contract: part by part.
-- Assumes nothing.
use mathlib.Core.Path.{sym, ap, ◌∙◌}
use Rattle.base.specs.Tables.{first_given}
use Rattle.requests.specs.Requests.{requests_of}
use Rattle.answers.specs.Fedjel.{items_in, items_of}
use Rattle.answers.proofs.Form.{items}
use Rattle.cover.specs.Head.{head_rows}
use Rattle.cover.specs.Codes.{whole_rows_of_all}
use Rattle.cover.proofs.Parts.{typed, not_plain, head_first, items_first, foot_last}
use Rattle.cover.proofs.codes.code_with.Goals as goal

pub returns-then-not-is_plain : goal.returns-then-not-is_plain
returns-then-not-is_plain c =
    let a = c.args in
    not_plain a.faulty a.day (requests_of a.list.now) a.f.now.message.now (sym c.is_plain.ensures ∙ c.if-not-is_plain.true)

pub returns-then-h-ne0 : goal.returns-then-h-ne0
returns-then-h-ne0 c =
    let a = c.args in
    let p = sym c.is_plain.ensures ∙ c.if-not-is_plain.false in
    let h = c.head_code-h.ensures ∙ ap (λ x. first_given (head_rows a.day (requests_of a.list.now) x)) c.head.ensures in
    head_first a.faulty a.day (requests_of a.list.now) a.f.now.message.now p h c.if-h-ne0.true

pub returns-then-i-ne0 : goal.returns-then-i-ne0
returns-then-i-ne0 c =
    let a = c.args in
    let m = a.f.now.message.now in
    let p = sym c.is_plain.ensures ∙ c.if-not-is_plain.false in
    let h = c.head_code-h.ensures ∙ ap (λ x. first_given (head_rows a.day (requests_of a.list.now) x)) c.head.ensures in
    let i = c.items_code-i.ensures ∙ ap (λ x. first_given (whole_rows_of_all x)) (ap items_in c.items.ensures ∙ items m) in
    items_first a.faulty a.day (requests_of a.list.now) m p h c.if-h-ne0.false i c.if-i-ne0.true

pub last_code-requires : goal.last_code-requires
last_code-requires c =
    let m = c.args.f.now.message.now in
    let i = c.items_code-i.ensures ∙ ap (λ x. first_given (whole_rows_of_all x)) (ap items_in c.items.ensures ∙ items m) in
    typed (items_of m) (sym i ∙ c.if-i-ne0.false)

pub returns : goal.returns
returns c =
    let a = c.args in
    let m = a.f.now.message.now in
    let p = sym c.is_plain.ensures ∙ c.if-not-is_plain.false in
    let h = c.head_code-h.ensures ∙ ap (λ x. first_given (head_rows a.day (requests_of a.list.now) x)) c.head.ensures in
    let i = c.items_code-i.ensures ∙ ap (λ x. first_given (whole_rows_of_all x)) (ap items_in c.items.ensures ∙ items m) in
    foot_last a.faulty a.day (requests_of a.list.now) m p h c.if-h-ne0.false i c.if-i-ne0.false
    c.last_code.ensures
