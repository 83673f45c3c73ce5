-- `cover::foot::totals_in` meets its contract: by the two bytes of the type.
-- Assumes nothing.
use mathlib.Core.Path.{◌≡◌, sym, ap, ◌∙◌}
use mathlib.Core.Bool.{Bool, true, false, cond, ◌&&◌, and-true}
use mathlib.Core.List.{List, [], ◌∷◌}
use Prim.Native.Nat.{ℕ}
use native.Mathlib.Omega.{arith}
use lib.Dec.{eqb}
use lib.ListN.{length, get_or}
use borrow.Author.Rules.{rules}
use Rattle.base.specs.Bytes.{field, same}
use Rattle.digits.specs.Digits.{number_of}
use Rattle.answers.proofs.Form.{type_bytes}
use Rattle.cover.specs.Foot.{is_type, amount_of}
use Rattle.cover.specs.Sums.{totals_in}
use Rattle.cover.proofs.foot.totals_in.Goals as goal

module _ (t : ℕ) (it : List ℕ) (h : length it ≡ 70) where
  typed : is_type t it ≡ eqb (get_or it 0 0) 48 && eqb (get_or it 1 0) t
  unfolding is_type
  typed =
      ap (λ (x : List ℕ). same x (48 ∷ t ∷ [])) (type_bytes it (omega (arith, h)))
      ∙ ap (λ (b : Bool). eqb (get_or it 0 0) 48 && b) (and-true (eqb (get_or it 1 0) t))

  own : eqb (get_or it 0 0) 48 && eqb (get_or it 1 0) t ≡ true → {v : ℕ} → v ≡ number_of (field 52 67 it)
      → record { count = 1; sum = v } ≡ totals_in t it
  unfolding totals_in amount_of
  own e {v} f =
      ap (λ (x : ℕ). record { count = 1; sum = x }) f
      ∙ ap (λ (b : Bool). record { count = cond b 1 0; sum = cond b (number_of (field 52 67 it)) 0 }) (sym (typed ∙ e))

  other : eqb (get_or it 0 0) 48 && eqb (get_or it 1 0) t ≡ false → record { count = 0; sum = 0 } ≡ totals_in t it
  unfolding totals_in amount_of
  other e = ap (λ (b : Bool). record { count = cond b 1 0; sum = cond b (number_of (field 52 67 it)) 0 }) (sym (typed ∙ e))

pub returns-then-item-last : goal.returns-then-item-last
returns-then-item-last c =
    let a = c.args in
    own a.last a.item.now (search rules) c.if-item-last.true c.number.ensures

pub returns : goal.returns
returns c =
    let a = c.args in
    other a.last a.item.now (search rules) c.if-item-last.false
