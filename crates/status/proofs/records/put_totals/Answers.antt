-- `status::records::put_totals` meets its contract: four numbers, one after the other.
-- Assumes nothing.
use mathlib.Core.Path.{◌≡◌}
use mathlib.Core.List.{List}
use Prim.Native.Nat.{ℕ, ◌≤◌}
use native.Mathlib.Omega.{arith}
use lib.ListN.{length}
use Rattle.base.specs.Bytes.{over}
use Rattle.digits.proofs.At.{PutAt}
use Rattle.frame.specs.declared.Totals.{Totals}
use Rattle.status.specs.Writing.{totals, Countable}
use Rattle.status.proofs.Put.{none, with_number}
use Rattle.status.proofs.records.put_totals.Goals as goal

module _ (xs : List ℕ) (a r : Totals) (h : (44 ≤ length xs) × Countable a × Countable r) {r₁ r₂ r₃ r₄ : ℕ} {y₁ y₂ y₃ y₄ : List ℕ} where
  written : PutAt xs 0 6 a.count r₁ y₁ → PutAt y₁ 6 16 a.sum r₂ y₂ → PutAt y₂ 22 6 r.count r₃ y₃ → PutAt y₃ 28 16 r.sum r₄ y₄
      → y₄ ≡ over xs 0 (totals a r)
  unfolding totals
  written e₁ e₂ e₃ e₄ =
      let p₁ = with_number (none xs) 6 a.count h.1.count (omega (arith, h.0)) e₁ in
      let p₂ = with_number p₁ 16 a.sum h.1.sum (omega (arith, h.0)) e₂ in
      let p₃ = with_number p₂ 6 r.count h.2.count (omega (arith, h.0)) e₃ in
      let p₄ = with_number p₃ 16 r.sum h.2.sum h.0 e₄ in
      p₄.is

pub returns : goal.returns
returns c =
    let a = c.args in
    written a.out.now a.accepted a.refused c.requires (c.put_at.ensures.place, c.put_at.ensures.bytes) (c.put_at-2.ensures.place, c.put_at-2.ensures.bytes)
    (c.put_at-3.ensures.place, c.put_at-3.ensures.bytes)
    (c.put_at-4.ensures.place, c.put_at-4.ensures.bytes)
