-- `packed::take` meets its contract: bytes of no session, a refusal, or the tally written where it stood.
-- Assumes nothing.
use mathlib.Core.Path.{◌≡◌, refl, sym, ◌∙◌}
use Rattle.std.proofs.Common.{rules, Err}
use Rattle.packed.proofs.Fields.{not_packed}
use Rattle.packed.proofs.Taking.{no_session, named, done, refused}
use Rattle.packed.proofs.take.Goals as goal

pub returns-in_default : goal.returns-in_default
returns-in_default c = no_session (not_packed c.args.session.now c.in_default.ensures.cases) refl

pub returns-then-not-is_packed : goal.returns-then-not-is_packed
returns-then-not-is_packed c =
    rw c.in-Some.ensures.cases.same (no_session (rw c.in-Some.ensures.cases.same at c.is_packed.ensures) c.if-not-is_packed.true)

pub returns-in_err-step : goal.returns-in_err-step
returns-in_err-step c =
    let e : c.from_residual.result ≡ Err c.in_err-step.field-0.0 = search rules in
    let s = c.in-Some.ensures.cases.same in
    rw e (refused (rw s at (sym c.is_packed.ensures ∙ c.if-not-is_packed.false)) (rw s at c.step_in-step.ensures) c.in_err-step.field-0.0 c.in_err-step.was)

pub put_tally-requires : goal.put_tally-requires
put_tally-requires c = named (sym c.is_packed.ensures ∙ c.if-not-is_packed.false) c.step_in-step.ensures c.in_ok-step.was

pub returns : goal.returns
returns c =
    let s = c.in-Some.ensures.cases.same in
    done (rw s at (sym c.is_packed.ensures ∙ c.if-not-is_packed.false)) (rw s at c.step_in-step.ensures) c.step_in-step.array_long
    (λ i. (c.slice_known-1.given i).fits) c.in_ok-step.was c.put_tally.ensures
