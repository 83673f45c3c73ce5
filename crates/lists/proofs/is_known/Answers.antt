-- `lists::is_known` meets its contract: the chunks of the list are its whole identifiers.
-- Assumes nothing.
use lib.Dec.{lit<}
use borrow.Author.Rules.{rules}
use borrow.Author.Tests.{tests}
use Rattle.std.proofs.lemmas.Iterator.Search.{any_from_yields_List}
use Rattle.base.specs.Bytes.{same}
use Rattle.base.proofs.Chunks.{from_chunks, chunks_serve}
use Rattle.lists.proofs.is_known.Goals as goal

pub any-requires-clause-callable : goal.any-requires-clause-callable
any-requires-clause-callable c =
    chunks_serve 25 c.chunks_exact.ensures.size (λ x q k. search rules)
    (λ x l. search (rules, l))

pub returns : goal.returns
returns c =
    let l = c.args.list.now in
    let id = c.args.id in
    any_from_yields_List (λ e. same e id) _ _ _ c.any.ensures.ran (from_chunks 25 l (lit< tt) c.chunks_exact.ensures.rest c.chunks_exact.ensures.size)
    (λ x b q k. search (rules, tests))
