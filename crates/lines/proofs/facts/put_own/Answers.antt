-- `lines::facts::put_own` meets its contract: four lines, one after the other.
-- Assumes nothing.
use mathlib.Core.List.{List, ◌++◌}
use Prim.Native.Nat.{ℕ, ◌+◌, ◌≤◌}
use lib.ListN.{length}
use Rattle.base.specs.Bytes.{ascii}
use Rattle.frame.specs.declared.Status.{Status}
use Rattle.base.specs.Put.{Put}
use Rattle.lines.specs.Facts.{fact, own_lines}
use Rattle.base.proofs.Put.{one, two, three, three_fit, four, all_four}
use Rattle.lines.proofs.facts.put_own.Goals as goal

module _ (x : List ℕ) (a : ℕ) (s : Status) (h : a + length (own_lines s) ≤ length x) where
  abbrev date : List ℕ
  date = fact (ascii "DATE ") 8 s.date

  abbrev number : List ℕ
  number = fact (ascii "NUMBER ") 1 s.number

  abbrev time : List ℕ
  time = fact (ascii "TIME ") 6 s.time

  abbrev code : List ℕ
  code = fact (ascii "CODE ") 2 s.code

  fits : a + length (date ++ number ++ time ++ code) ≤ length x
  unfolding own_lines
  fits = h

  begun : a + length (date ++ number ++ time) ≤ length x
  begun = three_fit x a date number time code fits

  first : a + length date ≤ length x
  first = one x a date number time begun

  module _ {i : ℕ} {y : List ℕ} (p : Put x a date i y) where
    second : i + length number ≤ length y
    second = two x a date number time begun p

    module _ {j : ℕ} {z : List ℕ} (q : Put y i number j z) where
      third : j + length time ≤ length z
      third = three x a date number time begun p q

      module _ {k : ℕ} {u : List ℕ} (t : Put z j time k u) where
        fourth : k + length code ≤ length u
        fourth = four x a date number time code fits p q t

        all : {r : ℕ} {v : List ℕ} → Put u k code r v → Put x a (own_lines s) r v
        unfolding own_lines
        all w = all_four x a date number time code fits p q t w

pub put_fact-i-requires : goal.put_fact-i-requires
put_fact-i-requires c =
    let a = c.args in
    first a.out.now a.at a.s c.requires

pub put_fact-i-requires-2 : goal.put_fact-i-requires-2
put_fact-i-requires-2 c =
    let a = c.args in
    second a.out.now a.at a.s c.requires c.put_fact-i.ensures

pub put_fact-i-requires-3 : goal.put_fact-i-requires-3
put_fact-i-requires-3 c =
    let a = c.args in
    third a.out.now a.at a.s c.requires c.put_fact-i.ensures c.put_fact-i-2.ensures

pub put_fact-requires : goal.put_fact-requires
put_fact-requires c =
    let a = c.args in
    fourth a.out.now a.at a.s c.requires c.put_fact-i.ensures c.put_fact-i-2.ensures c.put_fact-i-3.ensures

pub returns : goal.returns
returns c =
    let a = c.args in
    all a.out.now a.at a.s c.requires c.put_fact-i.ensures c.put_fact-i-2.ensures c.put_fact-i-3.ensures
    c.put_fact.ensures
