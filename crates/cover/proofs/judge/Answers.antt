-- `cover::judge` meets its contract: outcome by outcome.
-- Assumes nothing.
use mathlib.Core.Path.{ap, ◌∙◌}
use mathlib.Core.Bool.{Bool}
use native.Mathlib.Omega.{arith}
use borrow.Author.Rules.{rules}
use Rattle.requests.specs.Requests.{requests_of}
use Rattle.cover.specs.Codes.{code_with}
use Rattle.std.proofs.lemmas.Result.{MatchResult-at_ok, MatchResult-at_err}
use Rattle.cover.proofs.Outcomes.{refused_as, no_room, done}
use Rattle.cover.proofs.judge.Goals as goal

pub returns-in_err-f : goal.returns-in_err-f
returns-in_err-f c =
    let a = c.args in
    let w = refused_as a.day a.list.now a.message.now a.table.now (MatchResult-at_err _ _ _ c.in_err-f.was c.taken.ensures) in
    search (rules, w)

pub returns-then-table-items : goal.returns-then-table-items
returns-then-table-items c =
    let a = c.args in
    let d = (MatchResult-at_ok _ _ _ c.in_ok-f.was c.taken.ensures).1 in
    no_room a.day a.list.now a.message.now a.table.now d (omega (arith, c.if-table-items.true, c.count-items.ensures))

pub returns : goal.returns
returns c =
    let a = c.args in
    let w = MatchResult-at_ok _ _ _ c.in_ok-f.was c.taken.ensures in
    let d = w.1 in
    let rs = requests_of a.list.now in
    let m = a.message.now in
    let f = c.put_codes-faulty.ensures in
    let k =
    c.code_with-code.ensures
    ∙ ap (code_with c.put_codes-faulty.result a.day rs) w.0
    ∙ ap (λ (b : Bool). code_with b a.day rs m) f.faulty in
    done a.day a.list.now m a.table.now d (omega (arith, c.if-table-items.false, c.count-items.ensures)) k c.count-items.ensures f.codes
