-- `lines::facts::put_order` meets its contract: three groups of texts, one after the other.
-- Assumes nothing.
use mathlib.Core.Path.{◌≡◌, ap, subst}
use mathlib.Core.List.{List, ◌++◌, append_assoc}
use Prim.Native.Nat.{ℕ, ◌+◌, ◌≤◌}
use native.Mathlib.Omega.{arith}
use lib.ListN.{length}
use Rattle.base.specs.Bytes.{ascii, field}
use Rattle.base.specs.Put.{Put}
use Rattle.lines.specs.Slip.{line_end}
use Rattle.lines.specs.Facts.{order_line}
use Rattle.base.proofs.Put.{one, two, three, all_three}
use Rattle.text.proofs.At.{PutAt, puts}
use Rattle.lines.proofs.facts.put_order.Goals as goal

regroup : (a b c d e f g : List ℕ) → (a ++ b ++ c) ++ (d ++ e ++ f) ++ g ≡ a ++ b ++ c ++ d ++ e ++ f ++ g
regroup a b c d e f g = simp append_assoc

module _ (x : List ℕ) (a : ℕ) (id : List ℕ) (h : a + length (order_line id) ≤ length x) where
  abbrev initiator : List ℕ
  initiator = ascii "ORDER " ++ field 1 13 id ++ ascii " "

  abbrev dated : List ℕ
  dated = field 14 21 id ++ ascii " " ++ field 22 25 id

  grouped : initiator ++ dated ++ line_end ≡ order_line id
  unfolding order_line
  grouped = regroup (ascii "ORDER ") (field 1 13 id) (ascii " ") (field 14 21 id) (ascii " ") (field 22 25 id) line_end

  fits : a + length (initiator ++ dated ++ line_end) ≤ length x
  fits = omega (arith, ap length grouped)

  first : a + length initiator ≤ length x
  first = one x a initiator dated line_end fits

  module _ {i : ℕ} {y : List ℕ} (p : Put x a initiator i y) where
    second : i + length dated ≤ length y
    second = two x a initiator dated line_end fits p

    module _ {j : ℕ} {z : List ℕ} (q : Put y i dated j z) where
      all : {r : ℕ} {u : List ℕ} → PutAt z j line_end r u → Put x a (order_line id) r u
      all {r} {u} s =
          let last : Put z j line_end r u = puts z j line_end (three x a initiator dated line_end fits p q) s in
          subst (λ (l : List ℕ). Put x a l r u) grouped (all_three x a initiator dated line_end fits p q last)

pub put_three-i-requires : goal.put_three-i-requires
put_three-i-requires c =
    let a = c.args in
    first a.out.now a.at a.id.now c.requires.1

pub put_three-i-requires-2 : goal.put_three-i-requires-2
put_three-i-requires-2 c =
    let a = c.args in
    second a.out.now a.at a.id.now c.requires.1 c.put_three-i.ensures

pub returns : goal.returns
returns c =
    let a = c.args in
    all a.out.now a.at a.id.now c.requires.1 c.put_three-i.ensures c.put_three-i-2.ensures (c.put_at.ensures.place, c.put_at.ensures.bytes)
