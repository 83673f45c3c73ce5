-- `cover::fedjel::Fedjel::head` meets its contract: there are bytes enough.
-- Assumes nothing.
use native.Mathlib.Omega.{arith}
use Rattle.cover.proofs.Parts.{long}
use Rattle.cover.proofs.fedjel.Fedjel.head.Goals as goal

pub unwrap-requires : goal.unwrap-requires
unwrap-requires c =
    let f = c.args.self.now in
    c.first_chunk.ensures.variant.1 (omega (arith, (long f.message.now f.form).least))
