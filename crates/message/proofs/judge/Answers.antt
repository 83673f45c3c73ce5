-- `message::judge` meets its contract: the refusals of opening and of the one piece, and the verdict.
-- Assumes nothing.
use mathlib.Core.Path.{◌≡◌, sym, ap, ◌∙◌, subst}
use mathlib.Core.List.{List}
use Prim.Native.Nat.{ℕ}
use Rattle.std.proofs.Common.{rules, Result, Ok, Err}
use Rattle.lent.specs.Lent.{Outcome, Lent, lent_in}
use Rattle.lent.specs.declared.Refusal.{Refusal}
use Rattle.frame.specs.declared.Closing.{Closing}
use Rattle.judge.specs.declared.Taken.{Taken}
use Rattle.judge.specs.declared.Closed.{Closed}
use Rattle.judge.specs.Session.{opened, taken, table_taken, Took, closed_of, table_judged, JudgedAs}
use Rattle.judge.specs.Feeding.{at_once, table_at_once}
use Rattle.judge.proofs.Great.{same, same_table}
use Rattle.message.proofs.judge.Goals.{Start}
use Rattle.message.proofs.judge.Goals as goal

module _ (l : Lent) (t m : List ℕ) where
  abbrev s : Taken
  s = opened l.day t

  abbrev n : Taken
  n = taken s.next m l.lists t

  module _ (r : Refusal) where
    not_opened : s.outcome ≡ Err r → at_once l t m ≡ Err r
    unfolding at_once
    not_opened h = rw h

    not_opened_table : s.outcome ≡ Err r → table_at_once l t m ≡ t
    unfolding table_at_once
    not_opened_table h = rw h

    not_taken : s.outcome ≡ Ok tt → n.outcome ≡ Err r → at_once l t m ≡ Err r
    unfolding at_once
    not_taken h k = rw (h, k)

  is_closed : s.outcome ≡ Ok tt → n.outcome ≡ Ok tt → at_once l t m ≡ (closed_of n.next).closing
  unfolding at_once
  is_closed h k = rw (h, k)

  read_table : s.outcome ≡ Ok tt → table_at_once l t m ≡ table_taken s.next m l.lists t
  unfolding table_at_once
  read_table h = rw h

  module _ (o : Taken) (i : o ≡ opened l.day t) where
    opened_as : {q : Outcome} → o.outcome ≡ q → s.outcome ≡ q
    opened_as h = sym (ap (λ (x : Taken). x.outcome) i) ∙ h

    refuses : (r : Refusal) → o.outcome ≡ Err r → {j : Result Closing Refusal} → j ≡ Err r → JudgedAs l t m j t
    refuses r h p =
        record {
          result = p ∙ sym (same l t m ∙ not_opened r (opened_as h));
          bytes = sym (same_table l t m ∙ not_opened_table r (opened_as h));
        }

    module _ (d : o.outcome ≡ Ok tt) (w : Taken) {u : List ℕ} (k : Took o.next m l.lists t w u) where
      took : Took s.next m l.lists t w u
      took = subst (λ (x : Taken). Took x.next m l.lists t w u) i k

      taken_as : {q : Outcome} → w.outcome ≡ q → n.outcome ≡ q
      taken_as h = sym (ap (λ (x : Taken). x.outcome) took.result) ∙ h

      wrote : u ≡ table_judged l t m
      wrote = took.bytes ∙ sym (same_table l t m ∙ read_table (opened_as d))

      stops : (r : Refusal) → w.outcome ≡ Err r → {j : Result Closing Refusal} → j ≡ Err r → JudgedAs l t m j u
      stops r h p = record { result = p ∙ sym (same l t m ∙ not_taken r (opened_as d) (taken_as h)); bytes = wrote }

      closes : w.outcome ≡ Ok tt → {c : Closed} → c ≡ closed_of w.next → JudgedAs l t m c.closing u
      closes h q =
          record {
            result = ap (λ (x : Closed). x.closing) (q ∙ ap (λ (x : Taken). closed_of x.next) took.result)
                ∙ sym (same l t m ∙ is_closed (opened_as d) (taken_as h));
            bytes = wrote;
          }

-- what is lent
abbrev given : Start → Lent
given c = lent_in c.args.day c.args.lists.now

pub returns-in_err-opened : goal.returns-in_err-opened
returns-in_err-opened c =
    let s = (goal.at.returns-in_err-opened c).Start in
    refuses (given s) c.args.table.now c.args.message.now c.open-opened.result c.open-opened.ensures _ c.in_err-opened.was (search rules)

pub returns-in_err-taken : goal.returns-in_err-taken
returns-in_err-taken c =
    stops (given (goal.at.returns-in_err-taken c).Start) c.args.table.now c.args.message.now c.open-opened.result c.open-opened.ensures
    c.in_ok-opened.was c.take-taken.result c.take-taken.ensures _ c.in_err-taken.was (search rules)

pub returns : goal.returns
returns c =
    closes (given (goal.at.returns c).Start) c.args.table.now c.args.message.now c.open-opened.result c.open-opened.ensures
    c.in_ok-opened.was c.take-taken.result c.take-taken.ensures c.in_ok-taken.was c.close.ensures
