-- `packed::put_counts` meets its contract: flags, what was told and counts over their places.
-- Assumes nothing.
use Rattle.packed.specs.Packed.{TallyFits}
use Rattle.packed.proofs.Parts.{counts_put}
use borrow.Author.Rules.{rules}
use Rattle.packed.proofs.put_counts.Goals.{Start}
use Rattle.packed.proofs.put_counts.Goals as goal

-- the tally's numbers fit the types of their fields
fits-at : (c : Start) → TallyFits c.args.t c.args.fill
fits-at c =
    record {
      accepted_count = search rules;
      accepted_sum = search rules;
      refused_count = search rules;
      refused_sum = search rules;
      zeros = search rules;
      fill = search rules;
      id = search rules;
    }

pub returns : goal.returns
returns c =
    let start = (goal.at.returns c).Start in
    let a = c.args in
    let f = fits-at start in
    let e =
    counts_put a.t a.fill f.id a.out.now c.told-out (c.put_at.ensures.place, c.put_at.ensures.bytes) (c.put_at-2.ensures.place, c.put_at-2.ensures.bytes)
    c.put_eights.ensures in
    record { bytes = e; fits = f }
