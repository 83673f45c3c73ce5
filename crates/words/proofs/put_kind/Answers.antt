-- `words::put_kind` meets its contract: the table of the code is that of the definition, by one computed test.
-- Assumes nothing.
use mathlib.Core.Path.{refl}
use Rattle.findings.specs.Answers.{kind_words}
use Rattle.words.proofs.Lines.{put}
use Rattle.words.proofs.put_kind.Goals as goal

pub returns : goal.returns
unfolding kind_words
returns c =
    let a = c.args in
    let said = put a.out.now a.at kind_words refl refl a.number refl (c.put_line.ensures.place, c.put_line.ensures.bytes) in
    record { place = said.0; bytes = said.1 }
