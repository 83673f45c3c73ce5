-- `lines::facts::counts_length` meets its contract: the lengths of the three lines.
-- Assumes nothing.
use mathlib.Core.Path.{◌≡◌}
use Prim.Native.Nat.{◌+◌}
use native.Mathlib.Omega.{arith}
use lib.ListN.{length, length-append}
use Rattle.digits.proofs.Figures.{figures_length}
use Rattle.frame.specs.declared.Status.{Status}
use Rattle.lines.specs.Slip.{places}
use Rattle.lines.specs.Facts.{wide, count_lines}
use Rattle.lines.proofs.facts.counts_length.Goals as goal

counts_long : (s : Status) → length (count_lines s)
    ≡ 33 + (places s.accepted.count + places s.accepted.sum) + (places s.refused.count + places s.refused.sum) + wide 1 s.references
unfolding count_lines
counts_long s = simp (length-append, figures_length) (omega arith)

pub returns : goal.returns
returns c =
    let l = counts_long c.args.s in
    let e = c.width.ensures.0 in
    (omega (arith, c.places.ensures.0, c.places-2.ensures.0, c.places-3.ensures.0, c.places-4.ensures.0, e), omega arith)
