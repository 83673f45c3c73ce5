-- `requests::has_bank` meets its contract: the chunks are the requests, and the closure looks at the account's bank.
-- Assumes nothing.
use native.Mathlib.Omega.{arith}
use Prim.Native.Nat.{◌≤◌}
use lib.ListN.{length}
use borrow.Author.Rules.{rules}
use Rattle.std.proofs.lemmas.Iterator.Search.{any_from_yields_List}
use Rattle.base.proofs.Chunks.{from_chunks, chunks_serve}
use Rattle.requests.specs.Requests.{keeps}
use Rattle.requests.proofs.has_bank.Goals as goal

pub any-requires-clause-callable : goal.any-requires-clause-callable
any-requires-clause-callable c =
    chunks_serve 65 c.chunks_exact.ensures.size (λ x q k. search rules) (λ x l. let h : 28 ≤ length x.now = omega (arith, l) in search rules)

pub returns : goal.returns
unfolding keeps
returns c =
    let a = c.args in
    any_from_yields_List (keeps a.bank.now) _ _ _ c.any.ensures.ran
    (from_chunks 65 a.list.now (omega arith) c.chunks_exact.ensures.rest c.chunks_exact.ensures.size) (λ x b q k. search rules)
