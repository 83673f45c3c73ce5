-- `answers::put_code` meets its contract: a place beyond the table alters nothing.
-- Assumes nothing.
use mathlib.Core.Path.{sym}
use lib.Seq.{set_out}
use Rattle.answers.proofs.put_code.Goals as goal

pub returns-else-k-table : goal.returns-else-k-table
returns-else-k-table c = sym (set_out _ _ _ c.if-k-table.false)
