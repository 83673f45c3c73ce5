-- `letters::put_byte` meets its contract: a mark, or a letter.
-- Assumes nothing.
use Rattle.std.proofs.Common.{arith, ap, sym, ◌∙◌, length}
use Rattle.letters.proofs.Shown.{said, by_mark, by_letter, letter_small}
use Rattle.letters.proofs.put_byte.Goals as goal

pub put_mark-requires : goal.put_mark-requires
put_mark-requires c = omega (arith, c.requires, ap length (by_mark c.args.b c.letter.ensures c.in-None.is))

pub returns-in-None : goal.returns-in-None
returns-in-None c = said (by_mark c.args.b c.letter.ensures c.in-None.is) c.put_mark.ensures

pub put_utf8-requires : goal.put_utf8-requires
put_utf8-requires c = (
  omega (arith, c.requires, ap length (by_letter c.args.b c.letter.ensures c.in-Some.is)),
  letter_small c.args.b c.in-Some.n (sym c.letter.ensures ∙ c.in-Some.is),
)

pub returns-in-Some : goal.returns-in-Some
returns-in-Some c = said (by_letter c.args.b c.letter.ensures c.in-Some.is) c.put_utf8.ensures
