-- `words::put_field` meets its contract: the table of the code is that of the definition, by one computed test.
-- Assumes nothing.
use mathlib.Core.Path.{refl}
use Rattle.findings.specs.Answers.{field_words}
use Rattle.words.proofs.Lines.{put}
use Rattle.words.proofs.put_field.Goals as goal

pub returns : goal.returns
unfolding field_words
returns c =
    let a = c.args in
    let said = put a.out.now a.at field_words refl refl a.number refl (c.put_line.ensures.place, c.put_line.ensures.bytes) in
    record { place = said.0; bytes = said.1 }
