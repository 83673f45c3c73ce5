-- A message by pieces, and what is printed for it (01, Examples, the slip program).
-- Assumes nothing.
use Rattle.std.specs.Prelude.{ℕ, ◌/◌, ◌≡◌, Bool, true, List, [], ◌∷◌, replicate, ltb, Result, Ok, Err}
use Rattle.base.specs.Bytes.{every}
use Rattle.base.specs.Put.{Put}
use Rattle.lent.specs.Lent.{Lists, Lent, lent, by}
use Rattle.frame.specs.Machine.{joined}
use Rattle.judge.specs.Session.{most, opened, taken, table_taken, closed_of, judged_of}
use Rattle.judge.specs.declared.Taken.{Taken}
use Rattle.lent.specs.declared.Refusal.{Refusal}
use Rattle.frame.specs.declared.Closing.{Closing}
use Rattle.files.specs.declared.Given.{Given}
use Rattle.files.specs.Files.{longest, numbers, given_by}
use Rattle.lines.specs.Slip.{slip_of, refusal_line}

-- a piece is taken where no call before it was refused
unfoldable pub fed_of : Taken → List ℕ → Lists → List ℕ → Taken
fed_of t p l table = by t.outcome (taken t.next p l table) (λ r. t)

-- the table then
unfoldable pub table_fed : Taken → List ℕ → Lists → List ℕ → List ℕ
table_fed t p l table = by t.outcome (table_taken t.next p l table) (λ r. table)

pub record FedAs (t : Taken) (p : List ℕ) (l : Lists) (table : List ℕ) (r : Taken) (table' : List ℕ) : Type 0 where
  pub result : r ≡ fed_of t p l table
  pub bytes : table' ≡ table_fed t p l table

-- what is printed for a closing, or for a refusal
abbrev pub told : Result Closing Refusal → List ℕ
told (Ok k) = slip_of k
told (Err r) = refusal_line r

-- the closing when the message is over, or the first refusal
unfoldable pub closing_by : Taken → Result Closing Refusal
closing_by t = by t.outcome (closed_of t.next).closing Err

-- what is printed then
abbrev pub answer_of : Taken → List ℕ
answer_of t = told (closing_by t)

-- pieces, each given what the last one left
unfoldable pub fed_all : Taken → List ℕ → Lists → List (List ℕ) → Taken
fed_all t table l [] = t
fed_all t table l (p ∷ ps) = fed_all (fed_of t p l table) (table_fed t p l table) l ps

-- the table then
unfoldable pub table_fed_all : Taken → List ℕ → Lists → List (List ℕ) → List ℕ
table_fed_all t table l [] = table
table_fed_all t table l (p ∷ ps) = table_fed_all (fed_of t p l table) (table_fed t p l table) l ps

-- each is a byte
abbrev pub is_bytes : List ℕ → Bool
is_bytes = every (λ b. ltb b 256)

-- some pieces of bytes, each given what the last one left, lead to a session and a table; that they are what was read no contract can
-- say, since std's `read` says which bytes came only where what is left of the input is known
pub record FedBy (t : Taken) (l : Lists) (table : List ℕ) (r : Taken) (table' : List ℕ) : Type 0 where
  pub pieces : List (List ℕ)
  pub octets : is_bytes (joined pieces) ≡ true
  pub result : r ≡ fed_all t table l pieces
  pub bytes : table' ≡ table_fed_all t table l pieces

-- what is printed when pieces were given to a session that was opened for a day and a table
abbrev pub answer_by : ℕ → List ℕ → Lists → List (List ℕ) → List ℕ
answer_by e table l ps = answer_of (fed_all (opened e table) table l ps)

-- where the files say something, and where they are refused
abbrev pub by_files : Result Given Refusal → (ℕ → List ℕ) → List ℕ
by_files (Ok g) f = f g.day
by_files (Err r) f = refusal_line r

-- what is lent by what the files say; the slip's barred list is empty (02 #105)
abbrev pub lent_by : ℕ → List ℕ → List ℕ → Lent
lent_by e banks known = lent e (numbers banks) known []

-- what the program prints for its three files and the uncut message, with a list and a table that it lends
unfoldable pub printed : List ℕ → List ℕ → List ℕ → ℕ → List ℕ → List ℕ → List ℕ
printed day banks known room table m =
    by_files (given_by day banks known room) (λ e. told (judged_of (lent_by e banks known) table m))

-- and as it works, by pieces
unfoldable pub printed_by : List ℕ → List ℕ → List ℕ → ℕ → List ℕ → List (List ℕ) → List ℕ
printed_by day banks known room table ps =
    by_files (given_by day banks known room) (λ e. answer_by e table (lent_by e banks known).lists ps)

-- the program lends a list with a place for each bank that a file can hold
abbrev pub bank_places : ℕ
bank_places = longest / 9

-- and a table with a byte for each item that a message can have
unfoldable pub zeros : List ℕ
zeros = replicate most 0

-- what it prints then for a message that comes in pieces: the text for the uncut message
abbrev pub slip_by : List ℕ → List ℕ → List ℕ → List (List ℕ) → List ℕ
slip_by day banks known ps = printed day banks known bank_places zeros (joined ps)

-- for some pieces of bytes, their whole text stands at the front of the output, and its length is told
pub record TextFor (text : List (List ℕ) → List ℕ) (out : List ℕ) (r : ℕ) (out' : List ℕ) : Type 0 where
  pub pieces : List (List ℕ)
  pub octets : is_bytes (joined pieces) ≡ true
  pub put : Put out 0 (text pieces) r out'
