-- `reading::reference` meets its contract: the first 65 bytes of all that follows the references before it.
-- Assumes nothing.
use mathlib.Core.Path.{ap, ◌∙◌}
use Prim.Native.Nat.{◌+◌, ◌*◌}
use lib.ListN.{take}
use Rattle.base.proofs.Parts.{tail}
use Rattle.reading.proofs.reference.Goals as goal

pub returns : goal.returns
returns c =
    let w = rw c.unwrap.ensures at c.first_chunk.ensures.cases in
    w.same ∙ ap (take 65) (tail c.args.x.now (56 + 65 * c.args.i))
