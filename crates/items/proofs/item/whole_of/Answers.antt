-- `items::item::whole_of` meets its contract: type and amount alone have such a code.
-- Assumes nothing.
use mathlib.Core.Path.{sym, ◌∙◌}
use Rattle.findings.specs.Codes.{either_code}
use Rattle.findings.proofs.Row.{or_none}
use Rattle.items.proofs.Tables.{whole_row}
use Rattle.items.proofs.item.whole_of.Goals as goal

pub returns : goal.returns
returns c =
    c.ranked.ensures
    ∙ rw (c.ranked_else.ensures, or_none (either_code 34 0 c.args.f.amount.found)) (sym (whole_row c.args.f))
