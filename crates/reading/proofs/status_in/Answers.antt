-- `reading::status_in` meets its contract: each field is read at its place.
-- Assumes nothing.
use mathlib.Core.List.{List}
use mathlib.Core.Path.{◌≡◌}
use Prim.Native.Nat.{ℕ, ◌+◌, ◌-◌, ◌*◌, ◌≤◌}
use native.Mathlib.Omega.{arith}
use lib.ListN.{length, get_or, take, drop}
use borrow.Author.Tests.{le-leb}
use Rattle.frame.specs.declared.Totals.{Totals}
use Rattle.frame.specs.Records.{id_of}
use Rattle.digits.specs.Digits.{number_of}
use Rattle.base.specs.Bytes.{field}
use Rattle.reading.proofs.Fields.{small}
use Rattle.reading.proofs.References.{foot_lent}
use Rattle.reading.specs.Checking.{totals_at}
use Rattle.reading.specs.Reading.{count_of, status_in}
use Rattle.reading.proofs.status_in.Goals as goal

-- the foot as code lends it
abbrev lent : List ℕ → ℕ → List ℕ
lent x m = take (length x - (56 + 65 * m)) (drop (56 + 65 * m) x)

module _ (x : List ℕ) (h : 104 ≤ length x) where
  is_id : id_of x ≡ field 10 34 x
  unfolding id_of
  is_id = rw (le-leb 34 (length x) (omega arith))

  said : {m : ℕ} → m ≡ count_of x
      → {id : List ℕ} → id ≡ id_of x
      → {d n t k : ℕ} → d ≡ number_of (field 35 42 x) → n ≡ number_of (field 43 46 x) → t ≡ number_of (field 47 52 x) → k ≡ number_of (field 53 54 x)
      → {a r : Totals} → a ≡ totals_at 2 (lent x m) → r ≡ totals_at 24 (lent x m)
      → record { duplicate = get_or x 8 0; id = id; date = d; number = n; time = t; code = k; accepted = a; refused = r; references = m } ≡ status_in x
  unfolding status_in
  said e p q₁ q₂ q₃ q₄ r₁ r₂ = rw (p, is_id, q₁, q₂, q₃, q₄, r₁, r₂, foot_lent x e, e)

pub overflow_cast-result : goal.overflow_cast-result
overflow_cast-result c = omega (arith, small 8 (drop 34 c.args.x.now))

pub overflow_cast-result-2 : goal.overflow_cast-result-2
overflow_cast-result-2 c = omega (arith, small 4 (drop 42 c.args.x.now))

pub overflow_cast-result-3 : goal.overflow_cast-result-3
overflow_cast-result-3 c = omega (arith, small 6 (drop 46 c.args.x.now))

pub overflow_cast-result-4 : goal.overflow_cast-result-4
overflow_cast-result-4 c = omega (arith, small 2 (drop 52 c.args.x.now))

pub returns : goal.returns
returns c =
    let x = c.args.x.now in
    said x (omega arith) c.count_of-references.ensures c.identifier.ensures
    c.number.ensures c.number-2.ensures
    c.number-3.ensures c.number-4.ensures
    c.totals_at.ensures
    c.totals_at-2.ensures
