-- The invariant of the loop of `files::in_order`.
-- Assumes nothing.
use Rattle.std.proofs.Common.{◌≡◌}
use Rattle.std.specs.Slice.Iter.{chunks_exact_rest, chunks_exact_size}
use Rattle.files.proofs.Lines.{Walked}
use Rattle.files.proofs.in_order.Given as goal

abbrev pub invariant-loop-line : goal.invariant-loop-line
invariant-loop-line l =
    (goal.iterator-loop-line).can_next l.line-iterator
    × (goal.iterator-loop-line).is_finite l.line-iterator
    × (chunks_exact_size l.line-iterator ≡ 9)
    × Walked l.s (chunks_exact_rest l.line-iterator) l.least
