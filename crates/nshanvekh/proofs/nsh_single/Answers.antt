-- `nshanvekh::nsh_single` meets its contract: the answer's number.
-- Assumes nothing.
use mathlib.Core.Path.{ap, ◌∙◌}
use Rattle.single.specs.Numbers.{single_number}
use Rattle.nshanvekh.proofs.nsh_single.Goals as goal

pub returns : goal.returns
returns c = c.number.ensures ∙ ap single_number c.answer.ensures
