-- `cover::codes::is_good` meets its contract: by the foot under both rules, and the faulty items where these differ.
-- Assumes nothing.
use mathlib.Core.Path.{sym, ◌∙◌}
use Rattle.requests.specs.Requests.{requests_of}
use Rattle.answers.specs.Fedjel.{items_of}
use Rattle.answers.specs.Answers.{is_faulty}
use Rattle.cover.proofs.Good.{good, not_good, good_if_faulty}
use Rattle.cover.proofs.codes.is_good.Goals as goal

pub returns-then-code_with-eq0 : goal.returns-then-code_with-eq0
returns-then-code_with-eq0 c =
    let a = c.args in
    let rs = requests_of a.list.now in
    good a.day rs a.f.now.message.now (is_faulty rs (items_of a.f.now.message.now)) (sym c.code_with.ensures ∙ c.if-code_with-eq0.true)

pub returns-then-code_with-ne0 : goal.returns-then-code_with-ne0
returns-then-code_with-ne0 c =
    let a = c.args in
    let rs = requests_of a.list.now in
    not_good a.day rs a.f.now.message.now (is_faulty rs (items_of a.f.now.message.now)) (λ z. c.if-code_with-ne0.true (c.code_with-2.ensures ∙ z))

pub returns : goal.returns
returns c =
    let a = c.args in
    let rs = requests_of a.list.now in
    let f = is_faulty rs (items_of a.f.now.message.now) in
    c.put_codes.ensures.faulty
    ∙ good_if_faulty a.day rs a.f.now.message.now f (λ z. c.if-code_with-eq0.false (c.code_with.ensures ∙ z))
    (sym c.code_with-2.ensures ∙ c.if-code_with-ne0.false)
