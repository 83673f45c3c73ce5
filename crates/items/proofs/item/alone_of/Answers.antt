-- `items::item::alone_of` meets its contract: the type has no such code.
-- Assumes nothing.
use mathlib.Core.Path.{sym, ◌∙◌}
use Rattle.findings.specs.Codes.{Ü, always, whole_code}
use Rattle.findings.proofs.Row.{or_none}
use Rattle.items.proofs.Tables.{alone_row}
use Rattle.items.proofs.item.alone_of.Goals as goal

pub returns : goal.returns
returns c =
    c.ranked_else.ensures
    ∙ rw (
      c.ranked-c-5.ensures,
      c.ranked_else-c.ensures,
      c.ranked-c-4.ensures,
      c.ranked-c-3.ensures,
      c.ranked-c-2.ensures,
      c.ranked-c.ensures,
      or_none (whole_code (always (Ü 62)) c.args.f.owner),
    )
    (sym (alone_row c.args.f))
