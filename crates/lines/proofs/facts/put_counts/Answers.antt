-- `lines::facts::put_counts` meets its contract: three lines, one after the other.
-- Assumes nothing.
use mathlib.Core.List.{List, ◌++◌}
use Prim.Native.Nat.{ℕ, ◌+◌, ◌≤◌}
use lib.ListN.{length}
use Rattle.base.specs.Bytes.{ascii}
use Rattle.frame.specs.declared.Status.{Status}
use Rattle.base.specs.Put.{Put}
use Rattle.lines.specs.Slip.{totals_line}
use Rattle.lines.specs.Facts.{fact, count_lines}
use Rattle.base.proofs.Put.{one, two, three, all_three}
use Rattle.lines.proofs.facts.put_counts.Goals as goal

module _ (x : List ℕ) (a : ℕ) (s : Status) (h : a + length (count_lines s) ≤ length x) where
  abbrev accepted : List ℕ
  accepted = totals_line (ascii "ACCEPTED ") s.accepted

  abbrev refused : List ℕ
  refused = totals_line (ascii "REFUSED ") s.refused

  abbrev references : List ℕ
  references = fact (ascii "REFERENCES ") 1 s.references

  fits : a + length (accepted ++ refused ++ references) ≤ length x
  unfolding count_lines
  fits = h

  first : a + length accepted ≤ length x
  first = one x a accepted refused references fits

  module _ {i : ℕ} {y : List ℕ} (p : Put x a accepted i y) where
    second : i + length refused ≤ length y
    second = two x a accepted refused references fits p

    module _ {j : ℕ} {z : List ℕ} (q : Put y i refused j z) where
      third : j + length references ≤ length z
      third = three x a accepted refused references fits p q

      all : {r : ℕ} {u : List ℕ} → Put z j references r u → Put x a (count_lines s) r u
      unfolding count_lines
      all t = all_three x a accepted refused references fits p q t

pub put_totals-i-requires : goal.put_totals-i-requires
put_totals-i-requires c =
    let a = c.args in
    first a.out.now a.at a.s c.requires

pub put_totals-i-requires-2 : goal.put_totals-i-requires-2
put_totals-i-requires-2 c =
    let a = c.args in
    second a.out.now a.at a.s c.requires c.put_totals-i.ensures

pub put_fact-requires : goal.put_fact-requires
put_fact-requires c =
    let a = c.args in
    third a.out.now a.at a.s c.requires c.put_totals-i.ensures c.put_totals-i-2.ensures

pub returns : goal.returns
returns c =
    let a = c.args in
    all a.out.now a.at a.s c.requires c.put_totals-i.ensures c.put_totals-i-2.ensures c.put_fact.ensures
