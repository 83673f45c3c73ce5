-- `cover::head::is_number` meets its contract: the digits, and their number.
-- Assumes nothing.
use mathlib.Core.Path.{◌≡◌, ap, ◌∙◌}
use mathlib.Core.Bool.{Bool, ◌&&◌}
use mathlib.Core.List.{List}
use Prim.Native.Nat.{ℕ}
use lib.Dec.{eqb}
use Rattle.digits.specs.Digits.{is_digits, number_of}
use Rattle.cover.specs.Head.{is_number}
use Rattle.cover.proofs.head.is_number.Goals as goal

is : (s : List ℕ) (n : ℕ) {d : Bool} → d ≡ is_digits s → {v : ℕ} → v ≡ number_of s → d && eqb v n ≡ is_number n s
unfolding is_number
is s n e {v} f = ap (λ (b : Bool). b && eqb v n) e ∙ ap (λ (x : ℕ). is_digits s && eqb x n) f

pub returns : goal.returns
returns c = is c.args.s.now c.args.n c.is_digits.ensures c.number.ensures
