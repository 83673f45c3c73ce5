-- `status::records::put_head` meets its contract: two parts, one after the other.
-- Assumes nothing.
use mathlib.Core.Path.{◌≡◌, ap, ◌∙◌}
use mathlib.Core.List.{List, ◌++◌, append_assoc}
use Prim.Native.Nat.{ℕ, ◌-◌, ◌≤◌}
use lib.ListN.{length, take, drop, length-append}
use borrow.Rule.Slice.PartMut.{put_mid}
use Rattle.base.specs.Bytes.{over}
use Rattle.digits.specs.Digits.{figures}
use Rattle.digits.proofs.Figures.{figures_length}
use Rattle.frame.specs.Records.{ending}
use Rattle.frame.specs.declared.Status.{Status}
use Rattle.status.specs.Records.{head_record}
use Rattle.status.specs.Writing.{address, own}
use Rattle.status.proofs.Put.{first, after}
use borrow.Author.Rules.{rules}
use Rattle.status.proofs.records.put_head.Goals.{Start}
use Rattle.status.proofs.records.put_head.Goals as goal

address_length : (kind : List ℕ) (d : ℕ) (id : List ℕ) → length kind ≡ 6 → length id ≡ 25 → length (address kind d id) ≡ 34
unfolding address
address_length kind d id k l = simp (length-append, k, l)

own_length : (s : Status) → length (own s) ≡ 22
unfolding own
own_length s = simp (length-append, figures_length)

joined : (w a b c d e : List ℕ) → w ++ (a ++ b ++ c ++ d ++ e) ≡ w ++ a ++ b ++ c ++ d ++ e
joined w a b c d e = simp append_assoc

both : (kind : List ℕ) (s : Status) → address kind s.duplicate s.id ++ own s ≡ head_record kind s
unfolding head_record address own
both kind s =
    joined (address kind s.duplicate s.id) (figures 8 s.date) (figures 4 s.number) (figures 6 s.time) (figures 2 s.code) ending

written : (xs kind : List ℕ) (s : Status) (y z : List ℕ) → 56 ≤ length xs → length kind ≡ 6 → length s.id ≡ 25
    → y ≡ over xs 0 (address kind s.duplicate s.id) → z ≡ over (take (length y - 34) (drop 34 y)) 0 (own s)
    → put_mid 34 (length y - 34) y z ≡ over xs 0 (head_record kind s)
written xs kind s y z h k l e f =
    let a = address_length kind s.duplicate s.id k l in
    let p = first xs (address kind s.duplicate s.id) y 34 e a in
    let q = after p (own s) z 22 (own_length s) h f in
    q.is ∙ ap (over xs 0) (both kind s)

-- the identifier's length, by its type
id-long : (c : Start) → length c.args.s.id ≡ 25
id-long c = search rules

pub returns : goal.returns
returns c =
    let start = (goal.at.returns c).Start in
    let a = c.args in
    written a.out.now a.kind.now a.s _ _ c.requires.0 c.requires.1 (id-long start) c.put_address.ensures
    c.put_own.ensures
