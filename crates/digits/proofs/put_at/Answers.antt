-- `digits::put_at` meets its contract: what was put into the part from the place on is over the whole from there.
-- Assumes nothing.
use Rattle.std.proofs.Common.{arith}
use Rattle.std.proofs.lemmas.Grind.{common_steps}
use Rattle.base.specs.Bytes.{over}
use Rattle.digits.specs.Digits.{with_number, with_number_at}
use Rattle.digits.proofs.put_at.Goals as goal

pub returns-clause-bytes : goal.returns-clause-bytes
unfolding over with_number with_number_at
returns-clause-bytes c =
    grind (arith, common_steps)
