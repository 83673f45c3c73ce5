-- `answers::all_ended` meets its contract: the chunks are the items.
-- Assumes nothing.
use native.Mathlib.Omega.{arith}
use borrow.Author.Rules.{rules}
use Rattle.std.proofs.lemmas.Iterator.Search.{all_from_yields_List}
use Rattle.base.proofs.Chunks.{from_chunks}
use Rattle.frame.specs.Records.{ended}
use Rattle.answers.proofs.all_ended.Goals as goal

pub returns : goal.returns
returns c =
    all_from_yields_List (ended 70) _ _ _ c.all.ensures.ran
    (from_chunks 72 c.args.items.now (omega arith) c.chunks_exact.ensures.rest c.chunks_exact.ensures.size) (λ x b q k. search rules)
