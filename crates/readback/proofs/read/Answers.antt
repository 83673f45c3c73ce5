-- `readback::read` is safe: there is a code for each reference.
-- Assumes nothing.
use mathlib.Core.Path.{◌≡◌, refl, sym, ap, ◌∙◌}
use mathlib.Core.Bool.{Bool, true, false, cond}
use mathlib.Core.List.{List}
use Prim.Native.Nat.{ℕ, ◌≤◌}
use native.Mathlib.Omega.{arith}
use lib.Dec.{leb}
use lib.ListN.{length, length-replicate}
use lib.Seq.{length-take-le}
use borrow.Author.Tests.{leb-true}
use Rattle.std.proofs.Common.{Result, Ok, Err}
use Rattle.frame.specs.declared.Status.{Status}
use Rattle.judge.specs.Session.{most}
use Rattle.lent.specs.declared.Refusal.{Refusal}
use Rattle.lent.specs.declared.Refusal.TheVariants.{Room, Malformed}
use Rattle.reading.specs.Reading.{count_of, status_in, is_status, read_of, ReadAs}
use Rattle.readback.proofs.read.Goals as goal

-- a reading that is no refusal passed both tests
passed : (x t : List ℕ) (a b : Bool) {s : Status} → leb (count_of x) (length t) ≡ b
    → cond a (cond b (Ok (status_in x)) (Err Room)) (Err Malformed) ≡ Ok s → s.references ≤ length t
unfolding status_in
passed x t false b h q = cc q
passed x t true false h q = cc q
passed x t true true {s} h q =
    let e : status_in x ≡ s = cc q in
    omega (arith, leb-true (count_of x) (length t) h, ap (λ (z : Status). z.references) e)

within : {x t : List ℕ} {r : Result Status Refusal} {t' : List ℕ} → ReadAs x t r t' → {s : Status} → r ≡ Ok s → s.references ≤ length t
unfolding read_of
within {x} {t} w q = passed x t (is_status x) (leb (count_of x) (length t)) refl (sym w.result ∙ q)

pub slice_bounds-codes-end : goal.slice_bounds-codes-end
slice_bounds-codes-end c =
    let h = within c.read_status.ensures c.in-Ok.is in
    omega (arith, length-replicate {A = ℕ} most 0)

pub slice_bounds-print-end : goal.slice_bounds-print-end
slice_bounds-print-end c =
    let h = within c.read_status.ensures c.in-Ok.is in
    sym (length-take-le _ _ (omega (arith, length-replicate {A = ℕ} most 0)))
