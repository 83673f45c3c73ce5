-- `status::reply::put_reply` meets its contract: head, references and foot, each in its own part.
-- Assumes nothing.
use mathlib.Core.Path.{◌≡◌, refl, ◌∙◌}
use mathlib.Core.List.{List}
use Prim.Native.Nat.{ℕ, ◌+◌, ◌-◌, ◌*◌, ◌≤◌}
use native.Mathlib.Omega.{arith}
use lib.ListN.{length, take, drop}
use lib.Seq.{length-take-le}
use borrow.Rule.Slice.PartMut.{put_mid}
use Rattle.base.specs.Bytes.{ascii, over}
use Rattle.frame.specs.Records.{lengths, items_of}
use Rattle.frame.specs.declared.Status.{Status}
use Rattle.frame.proofs.Cut.{each_item}
use Rattle.status.specs.Records.{head_record, references, foot_record, written}
use Rattle.status.specs.Writing.{Referable}
use Rattle.status.proofs.Put.{first, after}
use Rattle.status.proofs.Lengths.{items_take, head_length, references_length, foot_length}
use borrow.Author.Rules.{rules}
use Rattle.status.proofs.reply.put_reply.Goals.{Start}
use Rattle.status.proofs.reply.put_reply.Goals as goal

module _ (xs m cs : List ℕ) (s : Status) (h : 104 + s.references * 65 ≤ length xs) (l : length s.id ≡ 25) (ok : Referable m cs s.references) where
  abbrev n : ℕ
  n = s.references

  abbrev few : List (List ℕ)
  few = take n (items_of lengths m)

  long : length (references 1 cs few) ≡ n * 65
  long =
      let f : length few ≡ n = length-take-le n (items_of lengths m) ok.items in
      references_length 1 cs few (omega (arith, f, ok.codes)) (items_take n (items_of lengths m) (each_item lengths m)) ∙ omega (arith, f)

  whole : (y z u : List ℕ) → y ≡ over xs 0 (head_record (ascii "STATUS") s) → z ≡ over (take (length y - 56) (drop 56 y)) 0 (references 1 cs few)
      → u ≡ over (take (length (put_mid 56 (length y - 56) y z) - (56 + n * 65)) (drop (56 + n * 65) (put_mid 56 (length y - 56) y z))) 0 (foot_record s)
      → put_mid (56 + n * 65) (length (put_mid 56 (length y - 56) y z) - (56 + n * 65)) (put_mid 56 (length y - 56) y z) u ≡ over xs 0 (written s cs few)
  unfolding written
  whole y z u e f g =
      let p = first xs (head_record (ascii "STATUS") s) y 56 e (head_length (ascii "STATUS") s refl l) in
      let q = after p (references 1 cs few) z (n * 65) long (omega (arith, h)) f in
      let r = after q (foot_record s) u 48 (foot_length s) (omega (arith, h)) g in
      r.is

-- the identifier's length, by its type
id-long : (c : Start) → length c.args.s.id ≡ 25
id-long c = search rules

pub returns : goal.returns
returns c =
    let start = (goal.at.returns c).Start in
    let a = c.args in
    whole a.out.now a.message.now a.codes.now a.s c.requires.references_in_bounds (id-long start) c.requires.writable.1 _ _ _ c.put_head.ensures
    c.put_references.ensures c.put_foot.ensures
