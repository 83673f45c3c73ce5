-- `packed::put_tally` meets its contract: the identifier stands there already, or is put.
-- Assumes nothing.
use Rattle.packed.proofs.Parts.{tally_put, id_stands}
use mathlib.Core.Path.{◌∙◌}
use borrow.Author.Rules.{rules}
use Rattle.packed.proofs.put_tally.Goals as goal

pub returns-else-not-read : goal.returns-else-not-read
returns-else-not-read c =
    let a = c.args in
    let f = c.put_counts.ensures.fits in
    let e = c.put_counts.ensures.bytes in
    let s = c.requires.stands c.if-not-read.false in
    record { bytes = e ∙ id_stands a.out.now c.told-out a.t a.fill f.id s; fits = f }

pub slice_bounds-put_at-end : goal.slice_bounds-put_at-end
slice_bounds-put_at-end c = search (rules, c.put_counts.ensures.fits.id)

pub returns-then-not-read : goal.returns-then-not-read
returns-then-not-read c =
    let a = c.args in
    let f = c.put_counts.ensures.fits in
    record { bytes = tally_put a.t a.fill f.id a.out.now c.told-out c.put_counts.ensures.bytes (c.put_at.ensures.place, c.put_at.ensures.bytes); fits = f }
