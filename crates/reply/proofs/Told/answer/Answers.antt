-- `reply::Told::answer` is safe: a reply that is written lies within the output.
-- Assumes nothing.
use mathlib.Core.Path.{◌≡◌, sym, ◌∙◌}
use mathlib.Core.List.{List}
use Prim.Native.Nat.{ℕ, ◌≤◌}
use native.Mathlib.Omega.{arith}
use lib.ListN.{length}
use Rattle.std.proofs.Common.{Result, Ok}
use Rattle.lent.specs.Lent.{Lent}
use Rattle.lent.specs.declared.Refusal.{Refusal}
use Rattle.status.specs.declared.reply.Particulars.{Particulars}
use Rattle.status.specs.Reply.{Replied}
use Rattle.status.proofs.Granted.{granted}
use Rattle.reply.proofs.Told.answer.Goals as goal

-- what is written stands in the output
within : {l : Lent} {m : List ℕ} {p : Particulars} {out : List ℕ} {r : Result ℕ Refusal} {out' : List ℕ} → Replied l m p out r out'
    → {n : ℕ} → r ≡ Ok n → n ≤ length out
within {l} {m} {p} {out} w {n} q = (granted l m p out n (sym w.result ∙ q)).fits

pub slice_bounds-put-end : goal.slice_bounds-put-end
slice_bounds-put-end c =
    let h = within c.write.ensures c.in-Ok.is in
    omega arith

pub shared_ref_as_front-put : goal.shared_ref_as_front-put
shared_ref_as_front-put c =
    let h = within c.write.ensures c.in-Ok.is in
    omega arith
