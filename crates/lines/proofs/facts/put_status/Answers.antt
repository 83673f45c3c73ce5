-- `lines::facts::put_status` meets its contract: the lines of the head and of the foot, one after the other.
-- Assumes nothing.
use mathlib.Core.Path.{◌≡◌}
use mathlib.Core.List.{List, ◌++◌}
use Prim.Native.Nat.{ℕ, ◌+◌, ◌<◌, ◌≤◌}
use native.Mathlib.Omega.{arith}
use lib.ListN.{length, length-append}
use Rattle.frame.specs.declared.Status.{Status}
use Rattle.base.specs.Put.{Written, Put}
use Rattle.lines.specs.Facts.{address_lines, own_lines, count_lines, status_text}
use Rattle.base.proofs.Put.{one, two, three, all_three, written, unwritten}
use Rattle.lines.proofs.facts.put_status.Goals as goal

module _ (x : List ℕ) (s : Status) (m : ℕ) (e : m ≡ length (address_lines s ++ own_lines s)) (n : ℕ) (f : n ≡ length (count_lines s)) where
  long : length (status_text s) ≡ m + n
  unfolding status_text
  long = omega (arith, length-append (address_lines s ++ own_lines s) (count_lines s))

  no_room : length x < m + n → Written (status_text s) x 0 x
  no_room h = unwritten (status_text s) x (omega (arith, long))

  module _ (h : m + n ≤ length x) where
    fits : 0 + length (address_lines s ++ own_lines s ++ count_lines s) ≤ length x
    unfolding status_text
    fits = omega (arith, long)

    first : 0 + length (address_lines s) ≤ length x
    first = one x 0 (address_lines s) (own_lines s) (count_lines s) fits

    module _ {i : ℕ} {y : List ℕ} (p : Put x 0 (address_lines s) i y) where
      second : i + length (own_lines s) ≤ length y
      second = two x 0 (address_lines s) (own_lines s) (count_lines s) fits p

      module _ {j : ℕ} {z : List ℕ} (q : Put y i (own_lines s) j z) where
        third : j + length (count_lines s) ≤ length z
        third = three x 0 (address_lines s) (own_lines s) (count_lines s) fits p q

        all : {r : ℕ} {u : List ℕ} → Put z j (count_lines s) r u → Written (status_text s) x r u
        unfolding status_text
        all t = written (omega (arith, long)) (all_three x 0 (address_lines s) (own_lines s) (count_lines s) fits p q t)

pub returns-then-out-head_length : goal.returns-then-out-head_length
returns-then-out-head_length c =
    let a = c.args in
    no_room a.out.now a.s c.head_length.result c.head_length.ensures.0 c.counts_length.result
    c.counts_length.ensures.0 c.if-out-head_length.true

pub put_address-i-requires : goal.put_address-i-requires
put_address-i-requires c =
    let a = c.args in
    first a.out.now a.s c.head_length.result c.head_length.ensures.0 c.counts_length.result
    c.counts_length.ensures.0 c.if-out-head_length.false

pub put_own-i-requires : goal.put_own-i-requires
put_own-i-requires c =
    let a = c.args in
    second a.out.now a.s c.head_length.result c.head_length.ensures.0 c.counts_length.result
    c.counts_length.ensures.0 c.if-out-head_length.false c.put_address-i.ensures

pub put_counts-requires : goal.put_counts-requires
put_counts-requires c =
    let a = c.args in
    third a.out.now a.s c.head_length.result c.head_length.ensures.0 c.counts_length.result
    c.counts_length.ensures.0 c.if-out-head_length.false c.put_address-i.ensures c.put_own-i.ensures

pub returns : goal.returns
returns c =
    let a = c.args in
    all a.out.now a.s c.head_length.result c.head_length.ensures.0 c.counts_length.result
    c.counts_length.ensures.0 c.if-out-head_length.false c.put_address-i.ensures c.put_own-i.ensures
    c.put_counts.ensures
