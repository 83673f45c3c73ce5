-- What the calls over a whole message and over a STATUS answer, and what they leave in the memory that was lent (01, Calls and
-- their answers).
-- Assumes nothing.
use Rattle.std.specs.Prelude.{ℕ, ◌≡◌, Bool, cond, ◌&&◌, List, [], ◌∷◌, Result}
use Rattle.lent.specs.Lent.{Lent, outcome_number}
use Rattle.lent.specs.declared.Refusal.{Refusal}
use Rattle.judge.specs.Session.{judged_of, table_judged}
use Rattle.frame.specs.declared.Status.{Status}
use Rattle.status.specs.declared.reply.Particulars.{Particulars}
use Rattle.status.specs.Reply.{answer as answer_of, output}
use Rattle.reading.specs.Reading.{read_of, table_read}
use Rattle.nshanvekh.specs.Session.{sized, wrong_size, told, closing_numbers, closing_id}

-- so many numbers, and an identifier
abbrev pub sized_both : List ℕ → ℕ → List ℕ → Bool
sized_both ns n id = sized ns n && sized id 25

-- judging a whole message; codes written before an overflow stay in the table
pub record JudgedNumbers (m : List ℕ) (l : Lent) (t ns id : List ℕ) (r : ℕ) (t' ns' id' : List ℕ) : Type 0 where
  pub answer : r ≡ cond (sized_both ns 7 id) (outcome_number (judged_of l t m)) wrong_size
  pub table : t' ≡ cond (sized_both ns 7 id) (table_judged l t m) t
  pub numbers : ns' ≡ cond (sized_both ns 7 id) (told (judged_of l t m) closing_numbers ns) ns
  pub identifier : id' ≡ cond (sized_both ns 7 id) (told (judged_of l t m) closing_id id) id

-- the number of a reply: its length
abbrev pub reply_numbers : ℕ → List ℕ
reply_numbers n = n ∷ []

-- what writing a reply tells
pub record ReplyTold (w : Result ℕ Refusal) (ns : List ℕ) (r : ℕ) (ns' : List ℕ) : Type 0 where
  pub answer : r ≡ outcome_number w
  pub numbers : ns' ≡ told w reply_numbers ns

abbrev pub particulars_of : ℕ → ℕ → ℕ → Particulars
particulars_of d n t = record { duplicate = d; number = n; time = t }

-- the reply to a message
pub record RepliedAs (m : List ℕ) (l : Lent) (d n t : ℕ) (out ns : List ℕ) (r : ℕ) (out' ns' : List ℕ) : Type 0 where
  pub answer : r ≡ cond (sized ns 1) (outcome_number (answer_of l m (particulars_of d n t) out)) wrong_size
  pub bytes : out' ≡ cond (sized ns 1) (output l m (particulars_of d n t) out) out
  pub numbers : ns' ≡ cond (sized ns 1) (told (answer_of l m (particulars_of d n t) out) reply_numbers ns) ns

-- the numbers of a STATUS: duplicate code, date, number, time, code, accepted count and sum, refused count and sum, references
unfoldable pub status_numbers : Status → List ℕ
status_numbers s =
    s.duplicate
    ∷ s.date
    ∷ s.number
    ∷ s.time
    ∷ s.code
    ∷ s.accepted.count
    ∷ s.accepted.sum
    ∷ s.refused.count
    ∷ s.refused.sum
    ∷ s.references
    ∷ []

abbrev pub status_id : Status → List ℕ
status_id s = s.id

-- what reading a STATUS tells
pub record StatusTold (s : Result Status Refusal) (ns id : List ℕ) (r : ℕ) (ns' id' : List ℕ) : Type 0 where
  pub answer : r ≡ outcome_number s
  pub numbers : ns' ≡ told s status_numbers ns
  pub identifier : id' ≡ told s status_id id

-- reading a STATUS
pub record StatusAs (x t ns id : List ℕ) (r : ℕ) (t' ns' id' : List ℕ) : Type 0 where
  pub answer : r ≡ cond (sized_both ns 10 id) (outcome_number (read_of x t)) wrong_size
  pub table : t' ≡ cond (sized_both ns 10 id) (table_read x t) t
  pub numbers : ns' ≡ cond (sized_both ns 10 id) (told (read_of x t) status_numbers ns) ns
  pub identifier : id' ≡ cond (sized_both ns 10 id) (told (read_of x t) status_id id) id
