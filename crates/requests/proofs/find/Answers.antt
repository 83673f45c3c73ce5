-- `requests::find` meets its contract: the chunks are the requests, and the closure looks at the identifier.
-- Assumes nothing.
use Prim.Native.Nat.{◌≤◌}
use native.Mathlib.Omega.{arith}
use lib.ListN.{length}
use borrow.Author.Rules.{rules}
use Rattle.std.proofs.lemmas.Iterator.Search.{position_from_yields_List}
use Rattle.base.proofs.Chunks.{from_chunks, chunks_serve}
use Rattle.requests.specs.Requests.{has_id}
use Rattle.requests.proofs.find.Goals as goal

pub position-requires-clause-callable : goal.position-requires-clause-callable
position-requires-clause-callable c =
    chunks_serve 65 c.chunks_exact.ensures.size (λ x q k. search rules)
    (λ x l. let h : 25 ≤ length x.now = omega (arith, l) in search rules)

pub returns : goal.returns
unfolding has_id
returns c =
    let a = c.args in
    position_from_yields_List (has_id a.id.now) _ _ _ c.position.ensures.ran
    (from_chunks 65 a.list.now (omega arith) c.chunks_exact.ensures.rest c.chunks_exact.ensures.size) (λ x b q k. search rules)
