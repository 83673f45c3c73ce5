-- `letters::width` meets its contract.
-- Assumes nothing.
use Rattle.std.proofs.Common.{arith}
use Rattle.letters.proofs.Shown.{four_wide, one_wide, two_wide}
use Rattle.letters.proofs.width.Goals as goal

pub returns-in-None : goal.returns-in-None
returns-in-None c = (four_wide c.args.b c.letter.ensures c.in-None.is, omega arith)

pub returns-then-n-lt128 : goal.returns-then-n-lt128
returns-then-n-lt128 c = (one_wide c.args.b c.letter.ensures c.in-Some.is c.if-n-lt128.true, omega arith)

pub returns-else-n-lt128 : goal.returns-else-n-lt128
returns-else-n-lt128 c = (two_wide c.args.b c.letter.ensures c.in-Some.is c.if-n-lt128.false, omega arith)
