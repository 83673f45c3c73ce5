-- `cover::standing_to` meets its contract: outcome by outcome.
-- Assumes nothing.
use mathlib.Core.Path.{sym, ap, ◌∙◌}
use lib.Dec.{eqb}
use native.Mathlib.Omega.{arith}
use borrow.Author.Rules.{rules}
use Rattle.std.proofs.lemmas.Result.{MatchResult-at_ok, MatchResult-at_err}
use Rattle.requests.specs.Requests.{requests_of}
use Rattle.answers.specs.Fedjel.{item_bytes}
use Rattle.cover.specs.Codes.{message_code}
use Rattle.cover.proofs.Outcomes.{none_refused, not_asked, not_good, unanswered, inside_items, stands}
use Rattle.cover.proofs.standing_to.Goals as goal

pub returns-in_err-f : goal.returns-in_err-f
returns-in_err-f c =
    let a = c.args in
    let w = none_refused a.day a.list.now a.message.now a.id.now (MatchResult-at_err _ _ _ c.in_err-f.was c.taken.ensures) in
    search (rules, w)

pub returns-in_err-j : goal.returns-in_err-j
returns-in_err-j c =
    let a = c.args in
    let d = (MatchResult-at_ok _ _ _ c.in_ok-f.was c.taken.ensures).1 in
    let u = not_asked a.day a.list.now a.message.now a.id.now d c.find.ensures c.in_err-j.ensures.ok_part in
    search (rules, u)

pub returns-then-not-is_good : goal.returns-then-not-is_good
returns-then-not-is_good c =
    let a = c.args in
    let w = MatchResult-at_ok _ _ _ c.in_ok-f.was c.taken.ensures in
    let d = w.1 in
    let g = sym (c.is_good.ensures ∙ ap (λ x. eqb (message_code a.day (requests_of a.list.now) x) 0) w.0) ∙ c.if-not-is_good.true in
    not_good a.day a.list.now a.message.now a.id.now d c.find.ensures c.in_ok-j.ensures.ok_part c.as_chunks.ensures.front g

pub returns-in_err-place : goal.returns-in_err-place
returns-in_err-place c =
    let a = c.args in
    let w = MatchResult-at_ok _ _ _ c.in_ok-f.was c.taken.ensures in
    let d = w.1 in
    let g = sym (c.is_good.ensures ∙ ap (λ x. eqb (message_code a.day (requests_of a.list.now) x) 0) w.0) ∙ c.if-not-is_good.false in
    let s = c.in_ok-j.ensures.ok_part in
    let q = c.as_chunks.ensures.front in
    let u =
    unanswered a.day a.list.now a.message.now a.id.now d c.find.ensures s q g c.answer_to.ensures c.in_err-place.ensures.ok_part in
    search (rules, u)

pub offset_bounds-as_chunks-place : goal.offset_bounds-as_chunks-place
offset_bounds-as_chunks-place c =
    let a = c.args in
    let w = MatchResult-at_ok _ _ _ c.in_ok-f.was c.taken.ensures in
    let g = sym (c.is_good.ensures ∙ ap (λ x. eqb (message_code a.day (requests_of a.list.now) x) 0) w.0) ∙ c.if-not-is_good.false in
    let s = c.in_ok-j.ensures.ok_part in
    let q = c.as_chunks.ensures.front in
    let b = c.items.ensures ∙ ap item_bytes w.0 in
    let h = inside_items a.day a.list.now a.message.now a.id.now w.1 c.find.ensures s q g c.answer_to.ensures c.in_ok-place.ensures.ok_part b in
    omega (arith, h, c.as_chunks-2.ensures.front_len)

pub bounds-as_chunks-place : goal.bounds-as_chunks-place
bounds-as_chunks-place c =
    let a = c.args in
    let w = MatchResult-at_ok _ _ _ c.in_ok-f.was c.taken.ensures in
    let g = sym (c.is_good.ensures ∙ ap (λ x. eqb (message_code a.day (requests_of a.list.now) x) 0) w.0) ∙ c.if-not-is_good.false in
    let s = c.in_ok-j.ensures.ok_part in
    let q = c.as_chunks.ensures.front in
    let b = c.items.ensures ∙ ap item_bytes w.0 in
    let h = inside_items a.day a.list.now a.message.now a.id.now w.1 c.find.ensures s q g c.answer_to.ensures c.in_ok-place.ensures.ok_part b in
    omega (arith, h, c.as_chunks-2.ensures.front_len)

pub returns : goal.returns
returns c =
    let a = c.args in
    let w = MatchResult-at_ok _ _ _ c.in_ok-f.was c.taken.ensures in
    let b = c.items.ensures ∙ ap item_bytes w.0 in
    let g = sym (c.is_good.ensures ∙ ap (λ x. eqb (message_code a.day (requests_of a.list.now) x) 0) w.0) ∙ c.if-not-is_good.false in
    let s = c.in_ok-j.ensures.ok_part in
    let q = c.as_chunks.ensures.front in
    stands a.day a.list.now a.message.now a.id.now w.1 c.find.ensures s q g c.answer_to.ensures c.in_ok-place.ensures.ok_part b
    c.as_chunks-2.ensures.front c.number.ensures
