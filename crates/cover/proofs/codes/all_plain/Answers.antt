-- `cover::codes::all_plain` meets its contract: the fronts of the chunks are the items.
-- Assumes nothing.
use Prim.Native.Nat.{◌≤◌}
use native.Mathlib.Omega.{arith}
use lib.Dec.{lit≤}
use lib.ListN.{length}
use borrow.Author.Rules.{rules}
use Rattle.std.proofs.lemmas.Iterator.Search.{all_from_yields_List}
use Rattle.base.proofs.Chunks.{from_fronts, chunks_serve}
use Rattle.text.specs.Text.{is_plain}
use Rattle.cover.proofs.codes.all_plain.Goals as goal

pub all-requires-clause-callable : goal.all-requires-clause-callable
all-requires-clause-callable c =
    chunks_serve 72 c.chunks_exact.ensures.size (λ x q k. search rules) (λ x l. let h : 70 ≤ length x.now = omega (arith, l) in search rules)

pub returns : goal.returns
returns c =
    all_from_yields_List is_plain _ _ _ c.all.ensures.ran
    (from_fronts 72 70 c.args.items.now (lit≤ tt) (omega arith) c.chunks_exact.ensures.rest c.chunks_exact.ensures.size) (λ x b q k. search rules)
