-- Judging the whole message with the largest table: its refusals are the reply's first ones, and what it gives is what the reply says.
-- Assumes nothing.
use mathlib.Core.Path.{◌≡◌, refl, ap, ◌∙◌}
use mathlib.Core.Bool.{Bool, true, false}
use mathlib.Core.List.{List}
use Prim.Native.Nat.{ℕ, ◌≤◌}
use native.Mathlib.Omega.{arith}
use lib.ListN.{length}
use borrow.Author.Tests.{le-leb}
use Rattle.calendar.specs.Calendar.{is_date}
use Rattle.std.specs.Prelude.{Result, Ok, Err}
use Rattle.lent.specs.Lent.{Lent, Outcome, list_refused}
use Rattle.lent.specs.declared.Refusal.{Refusal}
use Rattle.lent.specs.declared.Refusal.TheVariants as refusal
use Rattle.frame.specs.Verdict.{Rules, overflows, verdict, table_after}
use Rattle.kinds.specs.Codes.{rules}
use Rattle.frame.specs.declared.Closing.{Closing}
use Rattle.judge.specs.Session.{most, closing_of, open_refused, whole_refused, judged_of, table_judged}
use Rattle.status.specs.declared.reply.Particulars.{Particulars}
use Rattle.status.specs.Reply.{room, verdict_of, answer as answer_of}
use Rattle.status.proofs.Bounds.{room_length}

-- a result is refused for one reason, or not at all
module _ {A : Type 0} where
  one_reason : {r q : Refusal} {a : Result A Refusal} → a ≡ Err r → a ≡ Err q → r ≡ q
  one_reason h k = cc

  never : {r : Refusal} {v : A} {a : Result A Refusal} → a ≡ Err r → a ≡ Ok v → ⊥
  never h k = cc

  one_value : {v w : A} {a : Result A Refusal} → a ≡ Ok v → a ≡ Ok w → w ≡ v
  one_value h k = cc

-- with a day and a table that isn't too long, the lists are what is looked at first
lists_first : (l : Lent) (t : List ℕ) → is_date l.day ≡ true → length t ≤ most → whole_refused l t ≡ list_refused l.lists
unfolding whole_refused open_refused
lists_first l t d h = rw (d, le-leb (length t) most h)

module _ (l : Lent) (m : List ℕ) where
  abbrev R : Rules
  R = rules l

  closing_over : overflows R room m ≡ true → closing_of (verdict R room m) ≡ Err refusal.Overflow
  unfolding verdict
  closing_over o = rw o

  closing_given : overflows R room m ≡ false → closing_of (verdict R room m) ≡ Ok (verdict R room m).closing
  unfolding verdict
  closing_given o = rw o

  abbrev j : Result Closing Refusal
  j = judged_of l room m

  -- nothing is refused before the address
  pub record Passed : Type 0 where
    pub day : is_date l.day ≡ true
    pub lists : list_refused l.lists ≡ Ok tt
    pub few : overflows R room m ≡ false
    pub given : j ≡ Ok (verdict_of l m).closing

  -- the answer where judging refuses, and where it doesn't
  pub record Agrees : Type 1 where
    pub refuses : (r : Refusal) → j ≡ Err r → (p : Particulars) (out : List ℕ) → answer_of l m p out ≡ Err r
    pub passes : (k : Closing) → j ≡ Ok k → Passed

  by_refusal : (r : Refusal) → j ≡ Err r → ((p : Particulars) (out : List ℕ) → answer_of l m p out ≡ Err r) → Agrees
  by_refusal r h k = record { refuses = λ q i p out. k p out ∙ ap Err (one_reason h i); passes = λ c i. absurd (never h i) }

  no_day : is_date l.day ≡ false → Agrees
  unfolding judged_of whole_refused open_refused answer_of
  no_day d = by_refusal refusal.NotADay (rw d) (λ p out. rw d)

  module _ (d : is_date l.day ≡ true) where
    whole_is : whole_refused l room ≡ list_refused l.lists
    whole_is = lists_first l room d (omega (arith, room_length))

    no_list : (r : Refusal) → list_refused l.lists ≡ Err r → Agrees
    unfolding judged_of answer_of
    no_list r b = by_refusal r (rw (whole_is, b)) (λ p out. rw (d, b))

    module _ (b : list_refused l.lists ≡ Ok tt) where
      too_many : overflows R room m ≡ true → Agrees
      unfolding judged_of answer_of
      too_many o = by_refusal refusal.Overflow (rw (whole_is, b) (closing_over o)) (λ p out. rw (d, b, o))

      given_closing : overflows R room m ≡ false → j ≡ Ok (verdict_of l m).closing
      unfolding judged_of
      given_closing o = rw (whole_is, b) (closing_given o)

      judged : overflows R room m ≡ false → Agrees
      judged o =
          record {
            refuses = λ r h p out. absurd (never h (given_closing o));
            passes = λ k i. record { day = d; lists = b; few = o; given = given_closing o };
          }

  pub agrees : Agrees
  agrees = go (is_date l.day) refl (list_refused l.lists) refl (overflows R room m) refl
    where
      go : (a : Bool) → is_date l.day ≡ a → (b : Outcome) → list_refused l.lists ≡ b → (o : Bool) → overflows R room m ≡ o → Agrees
      go false d b b' o o' = no_day d
      go true d (Err r) b o o' = no_list d r b
      go true d (Ok u) b true o = too_many d b o
      go true d (Ok u) b false o = judged d b o

  module _ (g : Passed) where
    pub closing_is : {k : Closing} → j ≡ Ok k → k ≡ (verdict_of l m).closing
    closing_is h = one_value g.given h

    pub table_is : table_judged l room m ≡ table_after R room m
    unfolding table_judged
    table_is = rw (whole_is g.day, g.lists)
