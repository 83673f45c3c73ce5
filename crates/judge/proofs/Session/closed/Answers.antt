-- `judge::Session::closed` meets its contract.
-- Assumes nothing.
use mathlib.Core.Path.{ap}
use lib.ListN.{replicate}
use Rattle.frame.specs.declared.Tally.{Tally}
use Rattle.judge.specs.Session.{longest}
use Rattle.judge.proofs.Session.closed.Goals as goal

pub returns : goal.returns
returns c = ap (λ (t : Tally). record { day = 0; room = 0; tally = t; fill = 0; held = replicate longest 0 }) c.unread.ensures
