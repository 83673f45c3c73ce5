-- `status::records::put_address` meets its contract: four fields, one after the other.
-- Assumes nothing.
use mathlib.Core.Path.{◌≡◌, refl}
use mathlib.Core.List.{List, [], ◌∷◌}
use Prim.Native.Nat.{ℕ, ◌≤◌}
use native.Mathlib.Omega.{arith}
use lib.ListN.{length}
use Rattle.base.specs.Bytes.{ascii, over}
use Rattle.status.specs.Writing.{address}
use Rattle.text.proofs.At.{PutAt}
use Rattle.status.proofs.Put.{none, with_text}
use Rattle.status.proofs.records.put_address.Goals as goal

module _ (xs kind : List ℕ) (d : ℕ) (id : List ℕ) (h : (34 ≤ length xs) × (length kind ≡ 6) × (length id ≡ 25)) {r₁ r₂ r₃ r₄ : ℕ} {y₁ y₂ y₃ y₄ : List ℕ} where
  written : PutAt xs 0 (ascii "01") r₁ y₁ → PutAt y₁ 2 kind r₂ y₂ → PutAt y₂ 8 (d ∷ []) r₃ y₃ → PutAt y₃ 9 id r₄ y₄ → y₄ ≡ over xs 0 (address kind d id)
  unfolding address
  written e₁ e₂ e₃ e₄ =
      let p₁ = with_text (none xs) (ascii "01") 2 refl (omega (arith, h.0)) e₁ in
      let p₂ = with_text p₁ kind 6 h.1 (omega (arith, h.0)) e₂ in
      let p₃ = with_text p₂ (d ∷ []) 1 refl (omega (arith, h.0)) e₃ in
      let p₄ = with_text p₃ id 25 h.2 h.0 e₄ in
      p₄.is

pub returns : goal.returns
returns c =
    let a = c.args in
    written a.out.now a.kind.now a.duplicate a.id.now c.requires (c.put_at.ensures.place, c.put_at.ensures.bytes)
    (c.put_at-2.ensures.place, c.put_at-2.ensures.bytes) (c.put_at-3.ensures.place, c.put_at-3.ensures.bytes)
    (c.put_at-4.ensures.place, c.put_at-4.ensures.bytes)
