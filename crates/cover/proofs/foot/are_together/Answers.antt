-- `cover::foot::are_together` meets its contract: the digits of both, and their numbers.
-- Assumes nothing.
use mathlib.Core.Path.{◌≡◌, ap, ◌∙◌}
use mathlib.Core.Bool.{Bool, ◌&&◌}
use mathlib.Core.List.{List}
use Prim.Native.Nat.{ℕ, ◌+◌}
use native.Mathlib.Omega.{arith}
use lib.Dec.{eqb}
use Rattle.digits.specs.Digits.{is_digits, number_of}
use Rattle.cover.specs.Foot.{are_together}
use Rattle.cover.proofs.Sums.{number_small}
use Rattle.cover.proofs.foot.are_together.Goals as goal

is : (s t : List ℕ) (n : ℕ) {d e : Bool} → d ≡ is_digits s → e ≡ is_digits t → {v w : ℕ} → v ≡ number_of s → w ≡ number_of t
    → d && (e && eqb (v + w) n) ≡ are_together n s t
unfolding are_together
is s t n {d} {e} f g {v} {w} h k =
    ap (λ (b : Bool). b && (e && eqb (v + w) n)) f
    ∙ ap (λ (b : Bool). is_digits s && (b && eqb (v + w) n)) g
    ∙ ap (λ (x : ℕ). is_digits s && (is_digits t && eqb (x + w) n)) h
    ∙ ap (λ (x : ℕ). is_digits s && (is_digits t && eqb (number_of s + x) n)) k

pub overflow_add-sum : goal.overflow_add-sum
overflow_add-sum c =
    let a = c.args in
    let s = number_small a.s.now in
    let t = number_small a.t.now in
    omega (arith, s, t, c.number.ensures, c.number-2.ensures)

pub returns : goal.returns
returns c =
    let a = c.args in
    is a.s.now a.t.now a.n c.is_digits.ensures c.is_digits-2.ensures c.number.ensures c.number-2.ensures
