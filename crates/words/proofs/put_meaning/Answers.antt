-- `words::put_meaning` meets its contract: the table of the code has each code's words at its line, by one computed test.
-- Assumes nothing.
use mathlib.Core.Path.{refl}
use Rattle.words.specs.Meanings.{meanings}
use Rattle.words.proofs.Lines.{put}
use Rattle.words.proofs.Meanings.{up_to, lines, at_code}
use Rattle.words.proofs.put_meaning.Goals as goal

pub returns : goal.returns
unfolding meanings
returns c =
    let a = c.args in
    let said = put a.out.now a.at (up_to 0 lines) refl refl a.code (at_code a.code) (c.put_line.ensures.place, c.put_line.ensures.bytes) in
    record { place = said.0; bytes = said.1 }
