-- `lines::slip::slip_length` meets its contract: the lengths of the five lines.
-- Assumes nothing.
use native.Mathlib.Omega.{arith}
use Rattle.lines.proofs.Long.{slip_long}
use Rattle.lines.proofs.slip.slip_length.Goals as goal

pub returns : goal.returns
returns c =
    let l = slip_long c.args.k in
    let d = c.places-5.ensures.0 in
    let e = c.code_width.ensures.0 in
    omega (arith, c.places.ensures.0, c.places-2.ensures.0, c.places-3.ensures.0, c.places-4.ensures.0, d, e)
