-- `status::records::put_own` meets its contract: four numbers and the ending, one after the other.
-- Assumes nothing.
use mathlib.Core.Path.{◌≡◌, refl}
use mathlib.Core.List.{List}
use Prim.Native.Nat.{ℕ, ◌≤◌}
use native.Mathlib.Omega.{arith}
use lib.ListN.{length}
use Rattle.base.specs.Bytes.{over}
use Rattle.text.proofs.At as text
use Rattle.digits.proofs.At as digits
use Rattle.frame.specs.declared.Status.{Status}
use Rattle.frame.specs.Records.{ending}
use Rattle.status.specs.Writing.{own, Writable}
use Rattle.status.proofs.Put.{none, with_text, with_number}
use Rattle.status.proofs.records.put_own.Goals as goal

module _ (xs : List ℕ) (s : Status) (h : (22 ≤ length xs) × Writable s) {r₁ r₂ r₃ r₄ r₅ : ℕ} {y₁ y₂ y₃ y₄ y₅ : List ℕ} where
  written : digits.PutAt xs 0 8 s.date r₁ y₁ → digits.PutAt y₁ 8 4 s.number r₂ y₂ → digits.PutAt y₂ 12 6 s.time r₃ y₃
      → digits.PutAt y₃ 18 2 s.code r₄ y₄ → text.PutAt y₄ 20 ending r₅ y₅ → y₅ ≡ over xs 0 (own s)
  unfolding own
  written e₁ e₂ e₃ e₄ e₅ =
      let p₁ = with_number (none xs) 8 s.date h.1.date (omega (arith, h.0)) e₁ in
      let p₂ = with_number p₁ 4 s.number h.1.number (omega (arith, h.0)) e₂ in
      let p₃ = with_number p₂ 6 s.time h.1.time (omega (arith, h.0)) e₃ in
      let p₄ = with_number p₃ 2 s.code h.1.code (omega (arith, h.0)) e₄ in
      let p₅ = with_text p₄ ending 2 refl h.0 e₅ in
      p₅.is

pub returns : goal.returns
returns c =
    let a = c.args in
    written a.out.now a.s c.requires (c.put_at.ensures.place, c.put_at.ensures.bytes) (c.put_at-2.ensures.place, c.put_at-2.ensures.bytes)
    (c.put_at-3.ensures.place, c.put_at-3.ensures.bytes) (c.put_at-4.ensures.place, c.put_at-4.ensures.bytes)
    (c.put_at-5.ensures.place, c.put_at-5.ensures.bytes)
