-- `status::reply::put_references` meets its contract: the references of the items passed stand over the front.
-- Assumes nothing.
use mathlib.Core.Path.{◌≡◌, sym, ap, ◌∙◌}
use mathlib.Core.List.{List, [], ◌++◌}
use Prim.Native.Nat.{ℕ, ◌+◌, ◌-◌, ◌*◌, ◌^◌, ◌≤◌, ◌<◌}
use native.Mathlib.Nat.{add_comm}
use native.Mathlib.Numerals.{add-one}
use native.Mathlib.Omega.{arith}
use lib.ListN.{length, get_or, take, drop, length-drop}
use lib.Seq.{length-take-le}
use borrow.Rule.Slice.PartMut.{put_mid}
use Rattle.base.specs.Bytes.{over}
use Rattle.base.proofs.Parts.{part_length}
use Rattle.frame.specs.Records.{lengths, item_end, items_of}
use Rattle.frame.specs.Places.{place}
use Rattle.status.specs.Records.{reference, references}
use Rattle.status.specs.Writing.{Referable}
use Rattle.base.proofs.Over.{part, over_none, length_over}
use Rattle.status.proofs.Put.{Put, next}
use Rattle.status.proofs.Lengths.{reference_length}
use Rattle.status.proofs.References.{none, references_snoc, placed}
use Rattle.status.proofs.reply.put_references.Invariants.{Writing}
use Rattle.status.proofs.reply.put_references.Goals as goal

start : (xs m cs : List ℕ) (n : ℕ) → n * 65 ≤ length xs → Referable m cs n → Writing xs m cs n xs 0
start xs m cs n h ok =
    let put : Put xs 0 (references 1 cs []) xs = record { is = sym (over_none xs 0) ∙ ap (over xs 0) (sym (none 1 cs)); long = ap length (none 1 cs) } in
    record { room = h; ok = ok; put = put }

module _ {xs m cs : List ℕ} {n : ℕ} {ys : List ℕ} {i : ℕ} (w : Writing xs m cs n ys i) where
  long : i ≤ n → length ys ≡ length xs
  long h = ap length w.put.is ∙ length_over xs 0 (references 1 cs (take i (items_of lengths m))) (omega (arith, w.room, w.put.long))

  module _ (h : i < n) where
    fits : i * 65 + 65 ≤ length ys
    fits = omega (arith, w.room, long (omega arith))

    stands : place i + item_end ≤ length m
    stands = (placed m i (omega (arith, w.ok.items))).long

    coded : i < length cs
    coded = omega (arith, w.ok.codes)

    -- the item's bytes, as they are lent
    abbrev item : List ℕ
    item = take (place i + lengths.item - place i) (drop (place i) m)

    asked : (65 ≤ length (take (length ys - i * 65) (drop (i * 65) ys))) × (length item ≡ lengths.item) × (i + 1 < 10 ^ 6) × (get_or cs i 0 < 10 ^ 2)
    asked =
        let a = length-take-le (length ys - i * 65) (drop (i * 65) ys) (omega (arith, length-drop (i * 65) ys)) in
        let b = part_length m (place i) (place i + lengths.item) (omega arith) (omega (arith, stands)) in
        (omega (arith, a, fits), b ∙ omega arith, omega (arith, w.ok.most), w.ok.small i h)

    on : (zs : List ℕ)
        → zs ≡ over (take (length ys - i * 65) (drop (i * 65) ys)) 0 (reference (i + 1) (get_or cs i 0) item)
        → Writing xs m cs n (put_mid (i * 65) (length ys - i * 65) ys zs) (i + 1)
    on zs e =
        let p = placed m i (omega (arith, w.ok.items)) in
        let d : place i + lengths.item - place i ≡ lengths.item = omega arith in
        let r = take lengths.item (drop (place i) m) in
        let l : length r ≡ lengths.item = length-take-le lengths.item (drop (place i) m) (omega (arith, p.long, length-drop (place i) m)) in
        let k = reference_length (i + 1) (get_or cs i 0) r l in
        let f = part ys (i * 65) (reference (i + 1) (get_or cs i 0) r) zs (omega (arith, fits, k)) (rw d at e) in
        let q =
        next w.put (reference (i + 1) (get_or cs i 0) r) (put_mid (i * 65) (length ys - i * 65) ys zs) 65 k (omega (arith, fits, long (omega arith))) f in
        let s : references 1 cs (take i (items_of lengths m)) ++ reference (i + 1) (get_or cs i 0) r ≡ references 1 cs (take (i + 1) (items_of lengths m)) =
        ap (λ (n : ℕ). references 1 cs (take i (items_of lengths m)) ++ reference n (get_or cs i 0) r) (add_comm i 1)
        ∙ ap (λ (x : List ℕ). references 1 cs (take i (items_of lengths m)) ++ reference (1 + i) (get_or cs i 0) x) (sym p.bytes)
        ∙ sym (references_snoc 1 cs (items_of lengths m) i coded (omega (arith, w.ok.items)))
        ∙ ap (λ (n : ℕ). references 1 cs (take n (items_of lengths m))) (sym (add-one i)) in
        let t : i * 65 + 65 ≡ (i + 1) * 65 = omega arith in
        record { room = w.room; ok = w.ok; put = rw (s, t) at q }

pub loop-i-init : goal.loop-i-init
loop-i-init c =
    let a = c.args in
    start a.out.now a.message.now a.codes.now a.n c.requires.n_in_bounds c.requires.referable

pub slice_bounds-item-end : goal.slice_bounds-item-end
slice_bounds-item-end c = omega (arith, stands c.loop-i.invariant c.loop-i-test.true)

pub loop-i-preserved : goal.loop-i-preserved
loop-i-preserved c = on c.loop-i.invariant c.loop-i-test.true _ c.put_reference.ensures

pub returns : goal.returns
returns c =
    let e : c.loop-i.i ≡ c.args.n = omega arith in
    c.loop-i.invariant.put.is ∙ ap (λ (j : ℕ). over c.args.out.now 0 (references 1 c.args.codes.now (take j (items_of lengths c.args.message.now)))) e
