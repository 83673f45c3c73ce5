-- The proof of the cycle of calls {search}: one turn of the search by halves is what the code does.
-- Assumes nothing.
use mathlib.Core.Path.{◌≡◌, sym, ◌∙◌}
use mathlib.Core.Bool.{cond}
use mathlib.Core.List.{List}
use Prim.Native.Nat.{ℕ, ◌+◌, ◌-◌, ◌/◌, ◌<◌, ◌≤◌}
use native.Mathlib.Omega.{arith}
use lib.Dec.{ltb}
use lib.ListN.{length, get_or, take, drop, length-drop}
use lib.Seq.{length-take-le, get_or-take, get_or-drop, take-take, drop-drop}
use borrow.Author.Tests.{lt-ltb, le-ltb}
use Rattle.lists.specs.Banks.{member, half, found_in}
use Rattle.base.proofs.Parts.{drop_take}
use Rattle.lists.proofs.Halves.{short, turn}
use Rattle.lists.proofs.+search.Goals.{then-list-from, else-list-from}
use Rattle.lists.proofs.+search.Goals as goal

module _ (l : List ℕ) (from n x : ℕ) where
  abbrev part : List ℕ
  part = take n (drop from l)

  module _ (fits : from + n ≤ length l) where
    long : length part ≡ n
    long = length-take-le n (drop from l) (omega (arith, length-drop from l))

    few : n ≤ 8 → member x part ≡ found_in part x
    few h = sym (short x (length part) part (omega (arith, long)))

    module _ (many : 8 < n) (next : ℕ) where
      abbrev m : ℕ
      m = n / 2

      abbrev y : ℕ
      y = get_or l (from + m) 0

      halves : half x part ≡ cond (ltb x y) (take (n - m) (drop from l)) (take (n - m) (drop (from + m) l))
      halves =
          simp (long, get_or-take n (drop from l) m 0 (omega arith), get_or-drop, take-take (n - m) n (drop from l) (omega arith), drop_take, drop-drop)

      -- the next turn finds what this one does
      abbrev On : Type 0
      On = found_in (take (n - m) (drop next l)) x ≡ found_in part x

      on : (x < y → next ≡ from → On) × (y ≤ x → next ≡ from + m → On)
      on =
          let e = turn x part (omega (arith, long)) in
          (λ h f. sym (e ∙ simp (halves, lt-ltb x y h, f)), λ h f. sym (e ∙ simp (halves, le-ltb x y h, f)))

pub returns-then-n-le8 : goal.returns-then-n-le8
returns-then-n-le8 t c =
    let a = c.args in
    c.one_of.ensures ∙ few a.list.now a.from a.n a.code c.requires c.if-n-le8.true

pub returns : goal.returns
returns t c =
    let a = c.args in
    let e = on a.list.now a.from a.n a.code c.requires c.if-n-le8.false c.if-list-from.next in
    c.search.ensures
    ∙ (elim c.if-list-from.branch [
      | then-list-from w ↦ e.0 w.if-list-from.true w.next-is
      | else-list-from w ↦ e.1 w.if-list-from.false w.next-is
    ])
