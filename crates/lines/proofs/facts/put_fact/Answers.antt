-- `lines::facts::put_fact` meets its contract: the line with so many digits.
-- Assumes nothing.
use mathlib.Core.Path.{◌≡◌}
use mathlib.Core.List.{List}
use Prim.Native.Nat.{ℕ, ◌+◌, ◌≤◌}
use lib.ListN.{length}
use Rattle.base.specs.Put.{Put}
use Rattle.lines.specs.Slip.{line}
use Rattle.lines.specs.Facts.{wide, fact}
use Rattle.lines.proofs.facts.put_fact.Goals as goal

module _ (x : List ℕ) (a : ℕ) (word : List ℕ) (least n w : ℕ) (e : w ≡ wide least n) where
  fits : a + length (fact word least n) ≤ length x → a + length (line word w n) ≤ length x
  fits h = rw e h

  puts : {r : ℕ} {y : List ℕ} → Put x a (line word w n) r y → Put x a (fact word least n) r y
  puts p = rw e at p

pub put_line-requires : goal.put_line-requires
put_line-requires c =
    let a = c.args in
    (fits a.out.now a.at a.word.now a.least a.n c.width.result c.width.ensures.0 c.requires, c.width.ensures.2)

pub returns : goal.returns
returns c =
    let a = c.args in
    puts a.out.now a.at a.word.now a.least a.n c.width.result c.width.ensures.0 c.put_line.ensures
