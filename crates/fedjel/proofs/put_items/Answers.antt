-- `fedjel::put_items` is safe: each code is an item's.
-- Assumes nothing.
use native.Mathlib.Omega.{arith}
use Rattle.fedjel.proofs.put_items.Goals as goal

pub answer_of-requires : goal.answer_of-requires
answer_of-requires g c = omega (arith, c.loop-k-test.true, c.requires)
