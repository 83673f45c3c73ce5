-- `packed::step_in` meets its contract: the parts are read, and the part that was lent came back.
-- Assumes nothing.
use Rattle.packed.proofs.Taking.{back}
use Rattle.packed.proofs.step_in.Goals as goal

pub returns : goal.returns
returns c = back c.told-session c.take_lent.auto.held c.day_in-day.ensures c.number_at-room.ensures c.tally_in-tally.ensures
    c.number_at-fill.ensures c.take_lent.ensures
