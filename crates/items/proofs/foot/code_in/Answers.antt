-- `items::foot::code_in` meets its contract: the count's code, then the sum's.
-- Assumes nothing.
use mathlib.Core.Path.{◌≡◌}
use mathlib.Core.List.{List}
use Prim.Native.Nat.{ℕ}
use lib.ListN.{length}
use borrow.Author.Tests.{eq-eqb, ne_eqb}
use Rattle.base.specs.Bytes.{field}
use Rattle.fields.specs.Fields.{total_code}
use Rattle.findings.proofs.Row.{or_none}
use Rattle.kinds.specs.Codes.{foot_code}
use Rattle.items.proofs.foot.code_in.Goals as goal

module _ (count sum : ℕ) (r : List ℕ) where
  broken : (length r ≡ 24 → ⊥) → 26 ≡ foot_code count sum r
  unfolding foot_code
  broken f = simp (ne_eqb (length r) 24 f)

  module _ (h : length r ≡ 24) (c : ℕ) (e : c ≡ total_code 6 count 18 (field 3 8 r)) where
    wrong_count : (c ≡ 0 → ⊥) → c ≡ foot_code count sum r
    unfolding foot_code
    wrong_count f = simp (eq-eqb (length r) 24 h, ← e, ne_eqb c 0 f)

    right_count : c ≡ 0 → (d : ℕ) → d ≡ total_code 16 sum 19 (field 9 24 r) → d ≡ foot_code count sum r
    unfolding foot_code
    right_count z d g = simp (eq-eqb (length r) 24 h, ← e, z, ← g, or_none d)

pub returns-then-r-ne-FOOT : goal.returns-then-r-ne-FOOT
returns-then-r-ne-FOOT c = broken c.args.count c.args.sum c.args.r.now c.if-r-ne-FOOT.true

pub returns-then-c-ne0 : goal.returns-then-c-ne0
returns-then-c-ne0 c = wrong_count c.args.count c.args.sum c.args.r.now c.if-r-ne-FOOT.false c.total_code-c.result c.total_code-c.ensures c.if-c-ne0.true

pub returns : goal.returns
returns c =
    right_count c.args.count c.args.sum c.args.r.now c.if-r-ne-FOOT.false c.total_code-c.result c.total_code-c.ensures c.if-c-ne0.false
    c.total_code.result c.total_code.ensures
