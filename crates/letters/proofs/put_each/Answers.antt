-- `letters::put_each` meets its contract: a byte after the other, where there is room for all.
-- Assumes nothing.
use Rattle.letters.specs.Letters.{shown}
use Rattle.letters.proofs.Shown.{has_room, put_start, byte_room, put_on}
use Rattle.letters.proofs.put_each.Goals as goal

pub loop-b-init : goal.loop-b-init
loop-b-init c = put_start c.args.out.now c.args.s.now (has_room (shown c.args.s.now) c.args.out.now c.fits.ensures c.if-not-fits.false)

pub put_byte-at-requires : goal.put_byte-at-requires
put_byte-at-requires c = byte_room c.loop-b.invariant c.loop-b-test.true

pub loop-b-preserved : goal.loop-b-preserved
loop-b-preserved c = put_on c.loop-b.invariant c.loop-b-test.true c.put_byte-at.ensures
