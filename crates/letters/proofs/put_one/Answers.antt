-- `letters::put_one` meets its contract.
-- Assumes nothing.
use mathlib.Core.Path.{refl}
use Rattle.letters.proofs.Shown.{one_set}
use Rattle.letters.proofs.put_one.Goals as goal

pub returns : goal.returns
returns c = record { next = refl; bytes = one_set c.args.out.now c.args.at c.args.b c.requires }
