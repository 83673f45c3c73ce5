-- An empty message is broken.
-- Assumes nothing.
use mathlib.Core.Path.{◌≡◌, refl}
use mathlib.Core.List.{[]}
use Rattle.frame.specs.Records.{ended}
use Rattle.frame.specs.Verdict.{Rules, message_code}

pub empty : (R : Rules) → message_code R [] ≡ 26
unfolding message_code ended
empty R = refl
