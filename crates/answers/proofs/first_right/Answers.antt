-- `answers::first_right` meets its contract: the fronts of the chunks are the items.
-- Assumes nothing.
use Prim.Native.Nat.{◌≤◌}
use native.Mathlib.Omega.{arith}
use lib.Dec.{lit≤}
use lib.ListN.{length}
use borrow.Author.Rules.{rules}
use Rattle.std.proofs.lemmas.Iterator.Search.{position_from_yields_List}
use Rattle.base.proofs.Chunks.{from_fronts, chunks_serve}
use Rattle.answers.specs.Answers.{rightly}
use Rattle.answers.proofs.first_right.Goals as goal

pub position-requires-clause-callable : goal.position-requires-clause-callable
position-requires-clause-callable c =
    chunks_serve 72 c.chunks_exact.ensures.size (λ x q k. search rules) (λ x l. let h : 70 ≤ length x.now = omega (arith, l) in search rules)

pub returns : goal.returns
returns c =
    let a = c.args in
    position_from_yields_List (rightly a.request.now) _ _ _ c.position.ensures.ran
    (from_fronts 72 70 a.items.now (lit≤ tt) (omega arith) c.chunks_exact.ensures.rest c.chunks_exact.ensures.size) (λ x b q k. search rules)
