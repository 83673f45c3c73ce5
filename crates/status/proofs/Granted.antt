-- What a reply that is written shows: it passed every test, and stands in the output.
-- Assumes nothing.
use mathlib.Core.Path.{◌≡◌, refl}
use mathlib.Core.Bool.{Bool, true, false, cond}
use mathlib.Core.List.{List}
use Prim.Native.Nat.{ℕ, ◌≤◌}
use native.Mathlib.Omega.{arith}
use lib.Dec.{leb}
use lib.ListN.{length}
use borrow.Author.Tests.{leb-true}
use Rattle.std.specs.Prelude.{Result, Ok, Err}
use Rattle.calendar.specs.Calendar.{is_date}
use Rattle.lent.specs.Lent.{Lent, Outcome, list_refused, by}
use Rattle.lent.specs.declared.Refusal.{Refusal}
use Rattle.lent.specs.declared.Refusal.TheVariants.{NotADay, Overflow, Address, Particulars as WrongParticulars, Room}
use Rattle.frame.specs.Verdict.{overflows}
use Rattle.kinds.specs.Codes.{rules}
use Rattle.status.specs.declared.reply.Particulars.{Particulars}
use Rattle.status.specs.Reply.{has_address, are_particulars, room, reply, answer}

not_written : {A : Type 0} (r : Refusal) (n : ℕ) → ◌≡◌ {A = Result ℕ Refusal} (Err r) (Ok n) → A
not_written r n q = let z : ◌≡◌ {A = ℕ} 0 1 = cc in absurd (omega arith)

same_length : {a b : ℕ} → ◌≡◌ {A = Result ℕ Refusal} (Ok a) (Ok b) → b ≡ a
same_length q = cc

module _ (l : Lent) (m : List ℕ) (p : Particulars) (out : List ℕ) where
  abbrev long : ℕ
  long = length (reply l m p)

  pub record Granted (n : ℕ) : Type 0 where
    pub day : is_date l.day ≡ true
    pub few : overflows (rules l) room m ≡ false
    pub address : has_address m ≡ true
    pub particulars : are_particulars p ≡ true
    pub size : n ≡ length (reply l m p)
    pub fits : n ≤ length out

  pub granted : (n : ℕ) → answer l m p out ≡ Ok n → Granted n
  unfolding answer
  granted n =
      go (is_date l.day) refl (list_refused l.lists) (overflows (rules l) room m) refl (has_address m) refl (are_particulars p) refl
      (leb long (length out)) refl
    where
      answered : Bool → Outcome → Bool → Bool → Bool → Bool → Result ℕ Refusal
      answered d b o a g r =
          cond d
          (by b
          (cond o (Err Overflow) (cond a (cond g (cond r (Ok long) (Err Room)) (Err WrongParticulars)) (Err Address)))
          Err)
          (Err NotADay)

      go : (d : Bool) → is_date l.day ≡ d → (b : Outcome) (o : Bool) → overflows (rules l) room m ≡ o → (a : Bool) → has_address m ≡ a
          → (g : Bool) → are_particulars p ≡ g → (r : Bool) → leb long (length out) ≡ r → answered d b o a g r ≡ Ok n → Granted n
      go false d b o o' a a' g g' r r' q = not_written NotADay n q
      go true d (Err f) o o' a a' g g' r r' q = not_written f n q
      go true d (Ok u) true o a a' g g' r r' q = not_written Overflow n q
      go true d (Ok u) false o false a g g' r r' q = not_written Address n q
      go true d (Ok u) false o true a false g r r' q = not_written WrongParticulars n q
      go true d (Ok u) false o true a true g false r q = not_written Room n q
      go true d (Ok u) false o true a true g true r q =
          let s : n ≡ long = same_length q in
          record { day = d; few = o; address = a; particulars = g; size = s; fits = omega (arith, s, leb-true long (length out) r) }
