-- `text::is_same` meets its contract: lists of unlike lengths are not the same.
-- Assumes nothing.
use mathlib.Core.Path.{sym}
use Rattle.base.proofs.Same.{unlike}
use Rattle.text.proofs.is_same.Goals as goal

pub returns-then-s-t : goal.returns-then-s-t
returns-then-s-t c = sym (unlike c.args.s.now c.args.t.now c.if-s-t.true)
