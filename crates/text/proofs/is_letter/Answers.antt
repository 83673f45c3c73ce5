-- `text::is_letter` meets its contract: the same tests, grouped from the left.
-- Assumes nothing.
use mathlib.Core.Path.{◌≡◌, sym, ◌∙◌}
use mathlib.Core.Bool.{Bool, ◌||◌, or_assoc, or-false}
use mathlib.Core.List.{List, [], ◌∷◌}
use Prim.Native.Nat.{ℕ}
use lib.Dec.{eqb}
use Rattle.text.specs.Text.{one_of, hungarian, plain}
use Rattle.text.proofs.is_letter.Goals as goal

-- the tests as the code groups them
abbrev chain : Bool → List ℕ → ℕ → Bool
chain p [] b = p
chain p (x ∷ xs) b = chain (p || eqb b x) xs b

chained : (p : Bool) (l : List ℕ) (b : ℕ) → chain p l b ≡ p || one_of l b
chained p [] b = sym (or-false p)
chained p (x ∷ xs) b = chained (p || eqb b x) xs b ∙ or_assoc p (eqb b x) (one_of xs b)

pub returns : goal.returns
returns c = chained (plain c.args.b) hungarian c.args.b
