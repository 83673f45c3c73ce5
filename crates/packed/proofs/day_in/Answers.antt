-- `packed::day_in` meets its contract: what the library reads of the four bytes is their number.
-- Assumes nothing.
use native.Mathlib.Omega.{arith}
use Rattle.packed.proofs.Little.{four_read}
use Rattle.packed.proofs.day_in.Goals as goal

pub returns : goal.returns
returns c = four_read c.args.x.now 4 c.bytes_at.ensures c.from_le_bytes.ensures (omega (arith, c.told-x))
