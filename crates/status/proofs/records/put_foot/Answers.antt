-- `status::records::put_foot` meets its contract: the type, the totals and the ending, one after the other.
-- Assumes nothing.
use mathlib.Core.Path.{◌≡◌, refl, ap, ◌∙◌}
use mathlib.Core.List.{List, ◌++◌, append_assoc}
use Prim.Native.Nat.{ℕ, ◌-◌, ◌≤◌}
use native.Mathlib.Omega.{arith}
use lib.ListN.{length, take, drop, length-append}
use borrow.Rule.Slice.PartMut.{put_mid}
use Rattle.base.specs.Bytes.{ascii, over}
use Rattle.text.proofs.At.{PutAt}
use Rattle.digits.proofs.Figures.{figures_length}
use Rattle.frame.specs.declared.Totals.{Totals}
use Rattle.frame.specs.declared.Status.{Status}
use Rattle.frame.specs.Records.{ending}
use Rattle.status.specs.Records.{foot_record}
use Rattle.status.specs.Writing.{totals}
use Rattle.status.proofs.Put.{none, after, with_text}
use Rattle.status.proofs.records.put_foot.Goals as goal

totals_length : (a r : Totals) → length (totals a r) ≡ 44
unfolding totals
totals_length a r = simp (length-append, figures_length)

all : (s : Status) → ascii "03" ++ totals s.accepted s.refused ++ ending ≡ foot_record s
unfolding foot_record totals
all s = simp append_assoc

written : (xs : List ℕ) (s : Status) {r₁ r₂ : ℕ} {y z u : List ℕ} → 48 ≤ length xs
    → PutAt xs 0 (ascii "03") r₁ y → z ≡ over (take (length y - 2) (drop 2 y)) 0 (totals s.accepted s.refused)
    → PutAt (put_mid 2 (length y - 2) y z) 46 ending r₂ u → u ≡ over xs 0 (foot_record s)
written xs s {z = z} h e f g =
    let t = totals s.accepted s.refused in
    let p = with_text (none xs) (ascii "03") 2 refl (omega (arith, h)) e in
    let q = after p t z 44 (totals_length s.accepted s.refused) (omega (arith, h)) f in
    let r = with_text q ending 2 refl h g in
    r.is ∙ ap (over xs 0) (all s)

pub returns : goal.returns
returns c =
    let a = c.args in
    written a.out.now a.s c.requires.0 (c.put_at.ensures.place, c.put_at.ensures.bytes) c.put_totals.ensures
    (c.put_at-2.ensures.place, c.put_at-2.ensures.bytes)
