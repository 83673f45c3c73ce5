-- What is lent to a judging, which of it is refused, and the refusals' numbers (01, Calls and their answers; 02 #103, #105).
-- Assumes nothing.
use Rattle.std.specs.Prelude.{ℕ, cond, List, Result, Ok, Err}
use Rattle.std.specs.Bool.{⊤}
use Rattle.lists.specs.Banks.{is_bank_list, is_barred_list}
use Rattle.lists.specs.Known.{is_known_list}
use Rattle.lent.specs.declared.Refusal.{Refusal}
use Rattle.lent.specs.declared.Refusal.TheVariants as refusal
use Rattle.lent.specs.declared.Lists as declared

-- the lists that come with each piece
pub record Lists : Type 0 where
  pub banks : List ℕ
  pub known : List ℕ
  pub barred : List ℕ

abbrev pub listed : List ℕ → List ℕ → List ℕ → Lists
listed banks known barred = record { banks = banks; known = known; barred = barred }

-- the lists that a call is lent
abbrev pub listed_in : declared.Lists → Lists
listed_in l = listed l.banks.now l.known.now l.barred.now

-- the clearing day E, and the lists
pub record Lent : Type 0 where
  pub day : ℕ
  pub lists : Lists

abbrev pub lent : ℕ → List ℕ → List ℕ → List ℕ → Lent
lent e banks known barred = record { day = e; lists = listed banks known barred }

-- the clearing day and the lists that a call is lent
abbrev pub lent_in : ℕ → declared.Lists → Lent
lent_in e l = record { day = e; lists = listed_in l }

-- the number of each refusal
abbrev pub refusal_number : Refusal → ℕ
refusal_number refusal.NotADay = 1
refusal_number refusal.BankList = 2
refusal_number refusal.KnownList = 3
refusal_number refusal.Table = 4
refusal_number refusal.Session = 5
refusal_number refusal.Overflow = 6
refusal_number refusal.Address = 7
refusal_number refusal.Particulars = 8
refusal_number refusal.Room = 9
refusal_number refusal.Malformed = 10
refusal_number refusal.RequestList = 11
refusal_number refusal.Fedjel = 12
refusal_number refusal.Standing = 13
refusal_number refusal.BarredList = 15

-- what a call that gives nothing else comes to
abbrev pub Outcome : Type 0
Outcome = Result ⊤ Refusal

-- the number of an outcome: 0, or the refusal's
abbrev pub outcome_number : {A : Type 0} → Result A Refusal → ℕ
outcome_number (Ok a) = 0
outcome_number (Err r) = refusal_number r

-- what follows where nothing is refused, and where something is
abbrev pub by : {A : Type 0} → Outcome → A → (Refusal → A) → A
by (Ok u) a f = a
by (Err r) a f = f r

-- the first list that is refused: the bank list (2), the known list (3), the barred list (15)
unfoldable pub list_refused : Lists → Outcome
list_refused l =
    cond (is_bank_list l.banks)
    (cond (is_known_list l.known) (cond (is_barred_list l.barred) (Ok tt) (Err refusal.BarredList)) (Err refusal.KnownList))
    (Err refusal.BankList)
