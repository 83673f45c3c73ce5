-- `status::fedsta::put_fedsta` meets its contract: head and foot, each in its own part.
-- Assumes nothing.
use mathlib.Core.Path.{◌≡◌, refl}
use mathlib.Core.List.{List}
use Prim.Native.Nat.{ℕ, ◌-◌, ◌≤◌}
use lib.ListN.{length, take, drop}
use borrow.Rule.Slice.PartMut.{put_mid}
use Rattle.base.specs.Bytes.{ascii, over}
use Rattle.frame.specs.declared.Status.{Status}
use Rattle.status.specs.Records.{head_record, foot_record}
use Rattle.status.specs.CoverStatus.{fedsta_bytes}
use Rattle.status.proofs.Put.{first, after}
use Rattle.status.proofs.Lengths.{head_length, foot_length}
use borrow.Author.Rules.{rules}
use Rattle.status.proofs.fedsta.put_fedsta.Goals.{Start}
use Rattle.status.proofs.fedsta.put_fedsta.Goals as goal

whole : (xs : List ℕ) (s : Status) (y z : List ℕ) → 104 ≤ length xs → length s.id ≡ 25
    → y ≡ over xs 0 (head_record (ascii "FEDSTA") s) → z ≡ over (take (length y - 56) (drop 56 y)) 0 (foot_record s)
    → put_mid 56 (length y - 56) y z ≡ over xs 0 (fedsta_bytes s)
unfolding fedsta_bytes
whole xs s y z h l e f =
    let p = first xs (head_record (ascii "FEDSTA") s) y 56 e (head_length (ascii "FEDSTA") s refl l) in
    let q = after p (foot_record s) z 48 (foot_length s) h f in
    q.is

-- the identifier's length, by its type
id-long : (c : Start) → length c.args.s.id ≡ 25
id-long c = search rules

pub returns : goal.returns
returns c =
    let start = (goal.at.returns c).Start in
    let a = c.args in
    whole a.out.now a.s _ _ c.requires.0 (id-long start) c.put_head.ensures c.put_foot.ensures
