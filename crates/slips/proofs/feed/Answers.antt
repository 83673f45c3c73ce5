-- `slips::feed` meets its contract: it goes by the outcome before.
-- Assumes nothing.
use mathlib.Core.Path.{◌≡◌}
use mathlib.Core.List.{List}
use Prim.Native.Nat.{ℕ}
use Rattle.std.proofs.Common.{Ok, Err}
use Rattle.lent.specs.Lent.{Lists, listed_in}
use Rattle.lent.specs.declared.Refusal.{Refusal}
use Rattle.judge.specs.declared.Taken.{Taken}
use Rattle.judge.specs.Session.{Took}
use Rattle.slips.specs.Message.{fed_of, table_fed, FedAs}
use Rattle.slips.proofs.feed.Goals as goal

module _ (t : Taken) (p : List ℕ) (l : Lists) (table : List ℕ) where
  takes : t.outcome ≡ Ok tt → {r : Taken} {u : List ℕ} → Took t.next p l table r u → FedAs t p l table r u
  unfolding fed_of table_fed
  takes e k = record { result = rw e k.result; bytes = rw e k.bytes }

  stays : (r : Refusal) → t.outcome ≡ Err r → FedAs t p l table t table
  unfolding fed_of table_fed
  stays r e = record { result = rw e; bytes = rw e }

pub returns-in-Ok : goal.returns-in-Ok
returns-in-Ok c =
    let a = c.args in
    takes a.t a.piece.now (listed_in a.lists.now) a.table.now c.in-Ok.is c.take.ensures

pub returns-in-Err : goal.returns-in-Err
returns-in-Err c =
    let a = c.args in
    stays a.t a.piece.now (listed_in a.lists.now) a.table.now c.in-Err.field-0 c.in-Err.is
