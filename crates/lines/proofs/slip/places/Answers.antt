-- `lines::slip::places` meets its contract: one digit more than the highest power of ten that is no greater.
-- Assumes nothing.
use native.Mathlib.Omega.{arith}
use Rattle.std.proofs.Common.{rules}
use Rattle.lines.proofs.Places.{by_power, none, enough}
use Rattle.lines.proofs.slip.places.Goals as goal

pub returns-in-Some : goal.returns-in-Some
returns-in-Some c =
    let k = c.in-Some.ensures in
    let e = by_power c.in-Some.k c.args.n k.power_le k.next_power_gt k.bound in
    (e, omega (arith, k.bound), rw e (enough c.args.n (search rules)))

pub returns-in-None : goal.returns-in-None
returns-in-None c =
    let z = c.in-None.ensures.none in
    (none c.args.n z, omega arith, omega (arith, z))
