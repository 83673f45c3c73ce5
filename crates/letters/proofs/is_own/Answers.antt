-- `letters::is_own` meets its contract: the bytes passed are all shown as themselves exactly when `ok`.
-- Assumes nothing.
use mathlib.Core.Path.{refl}
use Rattle.base.proofs.Every.{start, on, ends}
use Rattle.letters.specs.Letters.{own}
use Rattle.letters.proofs.is_own.Goals as goal

pub loop-b-init : goal.loop-b-init
loop-b-init c = start own c.args.s.now

pub loop-b-preserved : goal.loop-b-preserved
loop-b-preserved c = on c.loop-b.invariant c.loop-b-test.true _ refl

pub returns : goal.returns
returns c = ends c.loop-b.invariant c.loop-b-test.false
