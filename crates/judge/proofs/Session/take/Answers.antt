-- `judge::Session::take` meets its contract: a session's own bytes are lent for those held.
-- Assumes nothing.
use mathlib.Core.Path.{◌≡◌, ◌∙◌}
use mathlib.Core.List.{List}
use Prim.Native.Nat.{ℕ}
use lib.ListN.{length}
use borrow.Author.Tests.{eq-eqb}
use Rattle.lent.specs.Lent.{Lists, listed_in}
use Rattle.judge.specs.declared.Session.{Session}
use Rattle.judge.specs.declared.Step.{Step}
use Rattle.judge.specs.Session.{longest, give, taken, table_taken, Took, parts_of, parts_refused, stepped, table_stepped, Stepped}
use borrow.Author.Rules.{rules}
use Rattle.judge.proofs.Session.take.Goals as goal

module _ (s : Session) (p : List ℕ) (l : Lists) (t : List ℕ) (h : length s.held ≡ longest) where
  same : stepped s p l t ≡ taken s p l t
  unfolding stepped taken parts_refused
  same = rw (eq-eqb (length s.held) longest h)

  same_table : table_stepped s p l t ≡ table_taken s p l t
  unfolding table_stepped table_taken parts_refused
  same_table = rw (eq-eqb (length s.held) longest h)

  took : {r : Step} {h' t' : List ℕ} → Stepped s.day s.room s.tally s.fill s.held p l t r h' t'
      → Took s p l t (give r.outcome (parts_of s.day s.room r.tally r.fill h')) t'
  took k = record { result = k.result ∙ same; bytes = k.bytes ∙ same_table }

pub returns : goal.returns
returns c =
    let a = c.args in
    took a.self a.piece.now (listed_in a.lists.now) a.table.now (search rules)
    c.take_lent-step.ensures
