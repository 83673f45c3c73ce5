-- The invariant of the loop of `account::all_zero`.
-- Assumes nothing.
use Rattle.std.proofs.Common.{◌≡◌, take}
use Rattle.base.specs.Bytes.{every}
use Rattle.account.specs.Account.{zero}
use Rattle.account.proofs.all_zero.Given as goal

abbrev pub invariant-loop-b : goal.invariant-loop-b
invariant-loop-b l = l.ok ≡ every zero (take l.b-index l.s)
