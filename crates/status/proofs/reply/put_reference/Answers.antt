-- `status::reply::put_reference` meets its contract: six fields, one after the other.
-- Assumes nothing.
use mathlib.Core.Path.{◌≡◌, refl}
use mathlib.Core.List.{List}
use Prim.Native.Nat.{ℕ, ◌^◌, ◌≤◌, ◌<◌}
use native.Mathlib.Omega.{arith}
use lib.ListN.{length, replicate}
use Rattle.base.specs.Bytes.{ascii, field, over}
use Rattle.base.proofs.Parts.{part_length}
use Rattle.text.proofs.At as text
use Rattle.digits.proofs.At as digits
use Rattle.frame.specs.Records.{ending}
use Rattle.status.specs.Records.{reference}
use Rattle.status.proofs.Put.{none, with_text, with_number}
use Rattle.status.proofs.reply.put_reference.Goals as goal

module _ (xs : List ℕ) (k c : ℕ) (r : List ℕ) (h : (65 ≤ length xs) × (length r ≡ 249) × (k < 10 ^ 6) × (c < 10 ^ 2)) where
  written : {r₁ r₂ r₃ r₄ r₅ r₆ : ℕ} {y₁ y₂ y₃ y₄ y₅ y₆ : List ℕ}
      → text.PutAt xs 0 (ascii "02") r₁ y₁ → digits.PutAt y₁ 2 6 k r₂ y₂ → digits.PutAt y₂ 8 2 c r₃ y₃
      → text.PutAt y₃ 10 (replicate 29 0x20) r₄ y₄ → text.PutAt y₄ 39 (field 51 74 r) r₅ y₅ → text.PutAt y₅ 63 ending r₆ y₆
      → y₆ ≡ over xs 0 (reference k c r)
  unfolding reference
  written e₁ e₂ e₃ e₄ e₅ e₆ =
      let f : length (field 51 74 r) ≡ 24 = part_length r 50 74 (omega arith) (omega (arith, h.1)) in
      let p₁ = with_text (none xs) (ascii "02") 2 refl (omega (arith, h.0)) e₁ in
      let p₂ = with_number p₁ 6 k h.2 (omega (arith, h.0)) e₂ in
      let p₃ = with_number p₂ 2 c h.3 (omega (arith, h.0)) e₃ in
      let p₄ = with_text p₃ (replicate 29 0x20) 29 refl (omega (arith, h.0)) e₄ in
      let p₅ = with_text p₄ (field 51 74 r) 24 f (omega (arith, h.0)) e₅ in
      let p₆ = with_text p₅ ending 2 refl h.0 e₆ in
      p₆.is

pub returns : goal.returns
returns c =
    let a = c.args in
    written a.out.now a.place a.code a.item.now c.requires (c.put_at.ensures.place, c.put_at.ensures.bytes)
    (c.put_at-2.ensures.place, c.put_at-2.ensures.bytes) (c.put_at-3.ensures.place, c.put_at-3.ensures.bytes)
    (c.put_at-4.ensures.place, c.put_at-4.ensures.bytes) (c.put_at-5.ensures.place, c.put_at-5.ensures.bytes)
    (c.put_at-6.ensures.place, c.put_at-6.ensures.bytes)
