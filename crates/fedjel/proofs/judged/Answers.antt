-- `fedjel::judged` is safe: there is a code for each item of the message, and the codes lie within the table.
-- Assumes nothing.
use mathlib.Core.Path.{◌≡◌, refl, sym, ap, ◌∙◌}
use mathlib.Core.Bool.{Bool, true, false, cond}
use mathlib.Core.List.{List}
use Prim.Native.Nat.{ℕ, ◌≤◌}
use native.Mathlib.Omega.{arith}
use lib.Dec.{leb}
use lib.ListN.{length}
use Rattle.std.specs.Prelude.{Result, Ok, Err}
use lib.Seq.{length-take-le}
use borrow.Author.Tests.{leb-true}
use Rattle.lent.specs.Lent.{Outcome, by}
use Rattle.lent.specs.declared.Refusal.{Refusal}
use Rattle.lent.specs.declared.Refusal.TheVariants.{Room}
use Rattle.answers.specs.Fedjel.{item_count}
use Rattle.cover.specs.Judging.{lent_refused, judged, JudgedAs}
use Rattle.cover.specs.declared.Judged.{Judged}
use Rattle.fedjel.proofs.judged.Goals as goal

-- an answer that is no refusal passed the tests
passed : (o : Outcome) (b : Bool) (x k : ℕ) {j : Judged} → by o (cond b (Ok (record { code = x; items = k })) (Err Room)) Err ≡ Ok j
    → (b ≡ true) × (j.items ≡ k)
passed (Err r) b x k q = cc q
passed (Ok u) false x k q = cc q
passed (Ok u) true x k {j} q =
    let e : record { code = x; items = k } ≡ j = cc q in
    (refl, sym (ap (λ (z : Judged). z.items) e))

-- so many items as the message has, and a place of the table for each
record Within (m t : List ℕ) (n : ℕ) : Type 0 where
  all : n ≡ item_count m
  low : n ≤ length t

within : {e : ℕ} {l m t : List ℕ} {r : Result Judged Refusal} {t' : List ℕ} → JudgedAs e l m t r t' → {j : Judged} → r ≡ Ok j → Within m t j.items
unfolding judged
within {e} {l} {m} {t} w {j} q =
    let p = passed (lent_refused e l m) (leb (item_count m) (length t)) _ (item_count m) (sym w.result ∙ q) in
    let h = leb-true (item_count m) (length t) p.0 in
    record { all = p.1; low = omega (arith, p.1) }

pub slice_bounds-put_items-end : goal.slice_bounds-put_items-end
slice_bounds-put_items-end g c =
    let h = (within c.judge.ensures c.in-Ok.is).low in
    omega arith

pub slice_bounds-put_items-end-in-Ok : goal.slice_bounds-put_items-end-in-Ok
slice_bounds-put_items-end-in-Ok g c =
    let h = (within c.judge.ensures c.in-Ok.is).low in
    sym (length-take-le _ _ (omega arith))

pub put_items-requires : goal.put_items-requires
put_items-requires g c =
    let w = within c.judge.ensures c.in-Ok.is in
    length-take-le _ _ (omega (arith, w.low)) ∙ w.all
