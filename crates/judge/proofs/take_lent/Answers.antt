-- `judge::take_lent` meets its contract: the refusals, and a piece that is read.
-- Assumes nothing.
use mathlib.Core.Path.{◌≡◌, sym, ap, ◌∙◌}
use mathlib.Core.List.{List}
use Prim.Native.Nat.{ℕ}
use lib.ListN.{length}
use borrow.Author.Tests.{eq-eqb, ne_eqb}
use Rattle.lent.specs.Lent.{Outcome, Lists, by, listed_in}
use Rattle.lent.specs.declared.Refusal.{Refusal}
use Rattle.lent.specs.declared.Refusal.TheVariants as refusal
use Rattle.std.specs.Prelude.{Ok, Err}
use Rattle.frame.specs.Machine.{State}
use Rattle.judge.specs.declared.Session.{Session}
use Rattle.judge.specs.declared.Left.{Left}
use Rattle.judge.specs.declared.Taken.{Taken}
use Rattle.judge.specs.Session.{longest, session_of, give, piece_refused, after, parts_of, parts_refused, stepped, table_stepped, Stepped}
use Rattle.judge.specs.Inner.{Became}
use Rattle.judge.proofs.Ranges.{fit, piece_passes}
use Rattle.judge.proofs.take_lent.Goals.{Start}
use Rattle.judge.proofs.take_lent.Goals as goal

module _ (s : Session) (p : List ℕ) (l : Lists) (t : List ℕ) where
  abbrev o : Outcome
  o = parts_refused s l (length t)

  abbrev n : State
  n = after s p l t

  -- what follows from the outcome
  abbrev answer : Outcome → Taken
  answer x = by x (give (Ok tt) (session_of s.day s.room n)) (λ r. give (Err r) s)

  -- memory of a session's size, or of another
  long : length s.held ≡ longest → piece_refused s l (length t) ≡ o
  unfolding parts_refused
  long h = rw (eq-eqb (length s.held) longest h)

  short : (length s.held ≡ longest → ⊥) → o ≡ Err refusal.Session
  unfolding parts_refused
  short h = rw (ne_eqb (length s.held) longest h)

  stops : (r : Refusal) → o ≡ Err r
      → Stepped s.day s.room s.tally s.fill s.held p l t (record { tally = s.tally; fill = s.fill; outcome = Err r }) s.held t
  unfolding stepped table_stepped
  stops r q = record { result = sym (ap answer q); bytes = sym (ap (λ (x : Outcome). by x n.table (λ r. t)) q) }

  reads : o ≡ Ok tt → (k : Left) {h' t' : List ℕ} → Became n k h' t'
      → Stepped s.day s.room s.tally s.fill s.held p l t (record { tally = k.tally; fill = k.fill; outcome = (Ok tt) }) h' t'
  unfolding stepped table_stepped
  reads q k w =
      record {
        result = (λ i. give (Ok tt) (parts_of s.day s.room (w.tally i) (w.fill i) (w.held i))) ∙ sym (ap answer q);
        bytes = w.bytes ∙ sym (ap (λ (x : Outcome). by x n.table (λ r. t)) q);
      }

-- the session and the lists given
abbrev given : Start → Session
given c = parts_of c.args.day c.args.room c.args.tally c.args.fill c.args.held.now

abbrev lists : Start → Lists
lists c = listed_in c.args.lists.now

pub returns-in_default : goal.returns-in_default
returns-in_default c =
    let s = (goal.at.returns-in_default c).Start in
    stops (given s) c.args.piece.now (lists s) c.args.table.now refusal.Session
    (short (given s) c.args.piece.now (lists s) c.args.table.now c.in_default.ensures.cases)

pub fed-l-requires : goal.fed-l-requires
fed-l-requires c =
    let s = (goal.at.fed-l-requires c).Start in
    let w = c.in-Some.ensures.cases in
    let k = piece_passes (given s) (lists s) (length c.args.table.now) (rw w.same at (sym c.refusal_of.ensures ∙ c.in-Ok.is)) in
    rw w.same (fit (given s) c.args.table.now k.in_range_lem k.room)

pub returns-in-Err : goal.returns-in-Err
returns-in-Err c =
    let s = (goal.at.returns-in-Err c).Start in
    let w = c.in-Some.ensures.cases in
    let o = long (given s) c.args.piece.now (lists s) c.args.table.now w.long in
    rw w.same (stops (given s) c.args.piece.now (lists s) c.args.table.now c.in-Err.r
    (sym o ∙ rw w.same at (sym c.refusal_of.ensures ∙ c.in-Err.is)))

pub returns-in-Ok : goal.returns-in-Ok
returns-in-Ok c =
    let s = (goal.at.returns-in-Ok c).Start in
    let w = c.in-Some.ensures.cases in
    let o = long (given s) c.args.piece.now (lists s) c.args.table.now w.long in
    reads (given s) c.args.piece.now (lists s) c.args.table.now (sym o ∙ rw w.same at (sym c.refusal_of.ensures ∙ c.in-Ok.is)) c.fed-l.result
    (rw w.same at c.fed-l.ensures)
