-- `reading::code_in` meets its contract: two digits fit a byte.
-- Assumes nothing.
use native.Mathlib.Omega.{arith}
use lib.ListN.{drop}
use Rattle.reading.proofs.Fields.{small}
use Rattle.reading.proofs.code_in.Goals as goal

pub overflow_cast-result : goal.overflow_cast-result
overflow_cast-result c = omega (arith, small 2 (drop 8 c.args.r.now))
