-- `text::is_text` meets its contract: bytes that are all 20h to 7Eh are text.
-- Assumes nothing.
use mathlib.Core.Path.{◌≡◌, sym, ◌∙◌}
use mathlib.Core.Bool.{true}
use Prim.Native.Nat.{ℕ}
use Rattle.base.proofs.Every.{weaker}
use Rattle.text.specs.Text.{plain, letter}
use Rattle.text.proofs.is_text.Goals as goal

plain_letter : (b : ℕ) → plain b ≡ true → letter b ≡ true
plain_letter b e = simp e

pub returns-then-is_plain : goal.returns-then-is_plain
returns-then-is_plain c = sym (weaker plain letter plain_letter c.args.s.now (sym c.is_plain.ensures ∙ c.if-is_plain.true))
