-- `answers::is_right` meets its contract: what is compared, then type and answer.
-- Assumes nothing.
use borrow.Author.Rules.{rules}
use Rattle.answers.specs.Answers.{rightly}
use Rattle.answers.proofs.is_right.Goals as goal

pub returns-then-is_same : goal.returns-then-is_same
unfolding rightly
returns-then-is_same c = search rules

pub returns-else-is_same : goal.returns-else-is_same
unfolding rightly
returns-else-is_same c = search rules
