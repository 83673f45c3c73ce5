-- The reply's bytes: its references are those of the items counted, with the codes that the table has for them.
-- Assumes nothing.
use mathlib.Core.Path.{◌≡◌, refl, sym, ap, ◌∙◌}
use mathlib.Core.Bool.{true, false}
use mathlib.Core.List.{List, [], ◌∷◌}
use Prim.Native.Nat.{ℕ, ◌+◌, ◌*◌, ◌≤◌}
use native.Mathlib.Omega.{arith}
use lib.Dec.{leb}
use lib.ListN.{length, take, drop, length-drop}
use lib.Seq.{length-take-le, take-nil}
use borrow.Author.Tests.{leb-true, le-leb}
use Rattle.base.specs.Bytes.{field}
use Rattle.base.proofs.Every.{both}
use Rattle.lent.specs.Lent.{Lent}
use Rattle.frame.specs.Records.{lengths, id_of, items_of}
use Rattle.frame.specs.Verdict.{overflows, table_after}
use Rattle.frame.proofs.Cut.{each_item}
use Rattle.kinds.specs.Codes.{rules}
use Rattle.status.specs.declared.reply.Particulars.{Particulars}
use Rattle.status.specs.Records.{references, written}
use Rattle.status.specs.Reply.{has_address, room, referred, said, reply}
use Rattle.status.proofs.Lengths.{Items, items_take, written_length}
use Rattle.status.proofs.Bounds.{said_referable, referred_length, referred_table}

-- the references of so many items as there are codes, and of so many codes as there are items
references_items : (k : ℕ) (cs : List ℕ) (rs : List (List ℕ)) → references k cs (take (length cs) rs) ≡ references k cs rs
unfolding references
references_items k [] rs = refl
references_items k (c ∷ cs) [] = refl
references_items k (c ∷ cs) (r ∷ rs) = rw (references_items (k + 1) cs rs)

references_codes : (k : ℕ) (cs : List ℕ) (rs : List (List ℕ)) → references k (take (length rs) cs) rs ≡ references k cs rs
unfolding references
references_codes k [] rs = rw (take-nil (length rs))
references_codes k (c ∷ cs) [] = refl
references_codes k (c ∷ cs) (r ∷ rs) = rw (references_codes (k + 1) cs rs)

-- an address has 25 bytes
module _ (m : List ℕ) (h : has_address m ≡ true) where
  address_long : 34 ≤ length m
  unfolding has_address
  address_long = leb-true 34 (length m) (both (leb 34 (length m)) _ h).0

  pub address_length : length (field 10 34 m) ≡ 25
  address_length = length-take-le 25 (drop 9 m) (omega (arith, address_long, length-drop 9 m))

  pub address_id : id_of m ≡ field 10 34 m
  unfolding id_of
  address_id = rw (le-leb 34 (length m) address_long)

module _ (l : Lent) (m : List ℕ) (p : Particulars) (o : overflows (rules l) room m ≡ false) where
  abbrev count : ℕ
  count = (said l m p).references

  -- the items that are referred to
  abbrev few : List (List ℕ)
  few = take count (items_of lengths m)

  pub few_length : length few ≡ count
  few_length = length-take-le count (items_of lengths m) (said_referable l m p).items

  pub few_items : Items few
  few_items = items_take count (items_of lengths m) (each_item lengths m)

  -- the reply by the items referred to, with their codes, and with the table
  pub reply_few : reply l m p ≡ written (said l m p) (referred l m) few
  unfolding reply written
  reply_few =
      let cs = referred l m in
      let q : references 1 cs few ≡ references 1 cs (items_of lengths m) =
      ap (λ (i : ℕ). references 1 cs (take i (items_of lengths m))) (sym (referred_length l m p o)) ∙ references_items 1 cs (items_of lengths m) in
      rw q

  pub reply_table : reply l m p ≡ written (said l m p) (table_after (rules l) room m) few
  unfolding written
  reply_table =
      let t = table_after (rules l) room m in
      let c : referred l m ≡ take (length few) t = sym (referred_table l m p o) ∙ ap (λ (i : ℕ). take i t) (sym few_length) in
      let q : references 1 (referred l m) few ≡ references 1 t few = ap (λ (cs : List ℕ). references 1 cs few) c ∙ references_codes 1 t few in
      reply_few ∙ rw q

  pub reply_length : length (field 10 34 m) ≡ 25 → length (reply l m p) ≡ 104 + 65 * count
  reply_length h =
      ap length reply_few
      ∙ written_length (said l m p) (referred l m) few h (referred_length l m p o ∙ sym few_length) few_items
      ∙ ap (λ (i : ℕ). 104 + 65 * i) few_length
