-- `reading::put_codes` meets its contract: the codes put so far, and the table as it was after them.
-- Assumes nothing.
use mathlib.Core.List.{List, [], ◌∷◌, ◌++◌}
use mathlib.Core.Path.{◌≡◌, refl, sym, ap, ◌∙◌}
use Prim.Native.Nat.{ℕ, ◌+◌, ◌<◌}
use native.Mathlib.Nat.{zero-add}
use native.Mathlib.Omega.{arith}
use lib.ListN.{length, set, length-set}
use Rattle.base.specs.Bytes.{over}
use Rattle.reading.proofs.References.{code_of, first_codes, next, codes_on, codes_length}
use Rattle.base.proofs.Over.{over_none, over_set}
use Rattle.reading.specs.Reading.{parts_of}
use Rattle.reading.proofs.put_codes.Invariants.{Put}
use Rattle.reading.proofs.put_codes.Goals as goal

-- the byte after those that are written
over_on : (t d : List ℕ) (v i : ℕ) → length d ≡ i → i < length t → set (over t 0 d) i v ≡ over t 0 (d ++ (v ∷ []))
over_on t d v i e h = ap (λ (n : ℕ). set (over t 0 d) n v) (sym (zero-add (length d) ∙ e)) ∙ over_set t 0 d v (omega (arith, e))

start : (x t : List ℕ) → Put x t t 0
unfolding parts_of
start x t = record { long = refl; is = sym (over_none t 0) }

module _ {x t u : List ℕ} {i : ℕ} (w : Put x t u i) where
  on : i < length t → {r : List ℕ} → r ≡ next x i → {c : ℕ} → c ≡ code_of r → Put x t (set u i c) (i + 1)
  on h e {c} q =
      record {
        long = length-set u i c ∙ w.long;
        is = rw (w.is, q, e, codes_on x i) (over_on t (first_codes x i) (code_of (next x i)) i (codes_length x i) h);
      }

pub loop-i-init : goal.loop-i-init
loop-i-init c = start c.args.x.now c.args.table.now

pub loop-i-preserved : goal.loop-i-preserved
loop-i-preserved c = on c.loop-i.invariant (omega arith) c.reference.ensures c.code_in.ensures
