-- `script::end_of` meets its contract: it goes by the place that is found.
-- Assumes nothing.
use Rattle.std.proofs.Common.{arith}
use Rattle.script.proofs.Numbers.{found, missed}
use Rattle.script.proofs.end_of.Goals as goal

pub returns-in-Some : goal.returns-in-Some
returns-in-Some c =
    let f = found c.args.s.now c.args.from c.args.b c.place_of.ensures (omega arith) c.in-Some.is in
    record { place = omega (arith, f.place); within = omega (arith, f.within); after = omega arith }

pub returns-in-None : goal.returns-in-None
returns-in-None c = missed c.args.s.now c.args.from c.args.b c.place_of.ensures (omega arith) c.in-None.is
