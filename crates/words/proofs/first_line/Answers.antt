-- `words::first_line` meets its contract: by the place of the line's end.
-- Assumes nothing.
use Rattle.words.proofs.Lines.{line, whole}
use Rattle.words.proofs.first_line.Goals as goal

pub returns-in-Some : goal.returns-in-Some
returns-in-Some c = line c.args.table.now c.line_end.ensures c.in-Some.is

pub returns-in-None : goal.returns-in-None
returns-in-None c = whole c.args.table.now c.line_end.ensures c.in-None.is
