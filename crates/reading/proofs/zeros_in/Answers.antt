-- `reading::zeros_in` meets its contract: the references passed are right exactly when `right`, and those with code 00 are counted.
-- Assumes nothing.
use mathlib.Core.List.{List}
use mathlib.Core.Bool.{Bool, true, false, cond, ◌&&◌}
use mathlib.Core.Path.{◌≡◌, refl}
use Prim.Native.Nat.{ℕ, ◌+◌, ◌≤◌}
use native.Mathlib.Omega.{arith}
use lib.Dec.{eqb}
use mir.Val.{bool_byte}
use Rattle.reading.proofs.References.{code_of, first_codes, next, codes_length, zeros_on, zeros_few, right_on}
use Rattle.reading.specs.Reading.{parts_of, reference_right, references_right}
use Rattle.reading.proofs.zeros_in.Invariants.{Seen}
use Rattle.reading.proofs.zeros_in.Goals as goal

start : (x : List ℕ) → Seen x true 0 0
unfolding parts_of references_right
start x = record { rights = refl; counts = refl }

-- one, if so
one : (b : Bool) → bool_byte b ≡ cond b 1 0
one true = refl
one false = refl

small : (b : Bool) → bool_byte b ≤ 1
small true = omega arith
small false = omega arith

module _ {x : List ℕ} {right : Bool} {zeros i : ℕ} (w : Seen x right zeros i) where
  few : zeros ≤ i
  few = omega (arith, w.counts, zeros_few (first_codes x i), codes_length x i)

  on : {r : List ℕ} → r ≡ next x i → {b : Bool} → b ≡ reference_right (i + 1) r → {c z : ℕ} → c ≡ code_of r → z ≡ bool_byte (eqb c 0)
      → Seen x (right && b) (zeros + z) (i + 1)
  on e p q z =
      record {
        rights = rw (p, e, w.rights, right_on x i);
        counts = rw (z, q, e, w.counts, zeros_on x i, one (eqb (code_of (next x i)) 0));
      }

pub loop-i-init : goal.loop-i-init
loop-i-init c = start c.args.x.now

pub overflow_add-zeros : goal.overflow_add-zeros
overflow_add-zeros c = omega (arith, few c.loop-i.invariant, c.from-zeros.ensures, small (eqb c.code_in.result 0))

pub loop-i-preserved : goal.loop-i-preserved
loop-i-preserved c = on c.loop-i.invariant c.reference-r.ensures c.is_reference-right.ensures c.code_in.ensures c.from-zeros.ensures
