-- `trial::words::changed` is safe: its answer counts bytes of the text.
-- Assumes nothing.
use Rattle.std.proofs.Common.{sym, length-take-le, rules}
use Rattle.trial.proofs.words.changed.Goals as goal

pub returns : goal.returns
returns c = (search rules, sym (length-take-le _ _ (search rules)))
