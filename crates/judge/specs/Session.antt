-- A session as a value, the state that it stands for, its ranges, and what opening, taking a piece and closing give
-- (01, Calls and their answers).
-- Assumes nothing.
use Rattle.std.specs.Prelude.{ℕ, ◌-◌, ◌*◌, ◌≡◌, Bool, cond, ◌&&◌, List, ◌++◌, length, take, replicate, leb, ltb, eqb, Result, Ok, Err}
use Rattle.calendar.specs.Calendar.{is_date}
use Rattle.lent.specs.Lent.{Outcome, Lists, Lent, list_refused, by}
use Rattle.lent.specs.declared.Refusal.{Refusal}
use Rattle.lent.specs.declared.Refusal.TheVariants as refusal
use Rattle.frame.specs.declared.Tally.{Tally}
use Rattle.frame.specs.declared.Closing.{Closing}
use Rattle.frame.specs.Records.{item_end, no_id}
use Rattle.frame.specs.Verdict.{Verdict, verdict, table_after, blank}
use Rattle.frame.specs.Machine.{State, unread, phased, fresh, items, size, run, closing}
use Rattle.frame.specs.Sound.{most_code, most_amount, most_kind}
use Rattle.kinds.specs.Codes.{rules}
use Rattle.judge.specs.declared.Session.{Session}
use Rattle.judge.specs.declared.Taken.{Taken}
use Rattle.judge.specs.declared.Step.{Step}
use Rattle.judge.specs.declared.Closed.{Closed}

-- a code table has at most so many bytes
abbrev pub most : ℕ
most = 10000

-- the longest record with its ending: no more bytes are held
abbrev pub longest : ℕ
longest = item_end

-- bytes held, with zeros after them
unfoldable pub pad : List ℕ → List ℕ
pad h = h ++ replicate (longest - length h) 0

-- a tally as a state, with h held and the table t
abbrev pub state_with : Tally → List ℕ → List ℕ → State
state_with c h t = record { tally = c; held = h; table = t }

-- the state that a session stands for beside its table, and the session of a state
abbrev pub state_of : Session → List ℕ → State
state_of s t = state_with s.tally (take s.fill s.held) t

abbrev pub session_of : ℕ → ℕ → State → Session
session_of day room s = record { day = day; room = room; tally = s.tally; fill = length s.held; held = pad s.held }

-- the ranges of a tally's numbers, in a table of so many bytes
unfoldable pub tally_in_range : ℕ → Tally → Bool
tally_in_range room c =
    leb c.phase 4
    && (leb c.told.kind (most_kind c.told.barred)
    && (leb c.code most_code
    && (leb (items c) room
    && (leb c.accepted.sum (most_amount * c.accepted.count)
    && (leb c.refused.sum (most_amount * c.refused.count)
    && leb c.zeros c.accepted.count)))))

-- the record begun isn't whole; none is begun after the foot, a break or an overflow
unfoldable pub held_in_range : ℕ → ℕ → List ℕ → Bool
held_in_range phase fill held = cond (leb phase 1) (ltb fill (size phase (take fill held))) (eqb fill 0)

-- a session that is open, with every number in its range (01, refusal 5)
unfoldable pub in_range : Session → Bool
in_range s =
    is_date s.day
    && (leb s.room most && (tally_in_range s.room s.tally && held_in_range s.tally.phase s.fill s.held))

-- no session at all, or one that was closed
abbrev pub closed_session : Session
closed_session = record { day = 0; room = 0; tally = phased 5 unread; fill = 0; held = replicate longest 0 }

abbrev pub give : Outcome → Session → Taken
give o s = record { outcome = o; next = s }

-- opening: refusals 1, 4
unfoldable pub open_refused : ℕ → List ℕ → Outcome
open_refused e t = cond (is_date e) (cond (leb (length t) most) (Ok tt) (Err refusal.Table)) (Err refusal.NotADay)

unfoldable pub opened : ℕ → List ℕ → Taken
opened e t = by (open_refused e t) (give (Ok tt) (session_of e (length t) (fresh t))) (λ r. give (Err r) closed_session)

-- a piece, beside a table of so many bytes: refusals 5, 2, 3, 15, 4
unfoldable pub piece_refused : Session → Lists → ℕ → Outcome
piece_refused s l n =
    cond (in_range s)
    (by (list_refused l) (cond (eqb n s.room) (Ok tt) (Err refusal.Table)) Err)
    (Err refusal.Session)

-- what is lent to the judging of a piece: the session's day, and the lists
abbrev pub lent_to : Session → Lists → Lent
lent_to s l = record { day = s.day; lists = l }

-- the state after a piece
abbrev pub after : Session → List ℕ → Lists → List ℕ → State
after s p l t = run (rules (lent_to s l)) (state_of s t) p

-- taking a piece; a refused one gives the session as it came, and leaves the table
unfoldable pub taken : Session → List ℕ → Lists → List ℕ → Taken
taken s p l t =
    by (piece_refused s l (length t))
    (give (Ok tt) (session_of s.day s.room (after s p l t)))
    (λ r. give (Err r) s)

unfoldable pub table_taken : Session → List ℕ → Lists → List ℕ → List ℕ
table_taken s p l t = by (piece_refused s l (length t)) (after s p l t).table (λ r. t)

pub record Took (s : Session) (p : List ℕ) (l : Lists) (t : List ℕ) (r : Taken) (t' : List ℕ) : Type 0 where
  pub result : r ≡ taken s p l t
  pub bytes : t' ≡ table_taken s p l t

-- a session in parts: the bytes held stand in memory of their own
abbrev pub parts_of : ℕ → ℕ → Tally → ℕ → List ℕ → Session
parts_of e room c fill h = record { day = e; room = room; tally = c; fill = fill; held = h }

-- with memory lent for the bytes held; that of another size is no session's
unfoldable pub parts_refused : Session → Lists → ℕ → Outcome
parts_refused s l n = cond (eqb (length s.held) longest) (piece_refused s l n) (Err refusal.Session)

unfoldable pub stepped : Session → List ℕ → Lists → List ℕ → Taken
stepped s p l t =
    by (parts_refused s l (length t))
    (give (Ok tt) (session_of s.day s.room (after s p l t)))
    (λ r. give (Err r) s)

unfoldable pub table_stepped : Session → List ℕ → Lists → List ℕ → List ℕ
table_stepped s p l t = by (parts_refused s l (length t)) (after s p l t).table (λ r. t)

-- outcome, tally, fill, every byte held and every table byte
pub record Stepped (e room : ℕ) (c : Tally) (fill : ℕ) (h p : List ℕ) (l : Lists) (t : List ℕ) (r : Step) (h' t' : List ℕ) : Type 0 where
  pub result : give r.outcome (parts_of e room r.tally r.fill h') ≡ stepped (parts_of e room c fill h) p l t
  pub bytes : t' ≡ table_stepped (parts_of e room c fill h) p l t

-- the closing of a verdict, or overflow
abbrev pub closing_of : Verdict → Result Closing Refusal
closing_of v = cond (eqb v.refusal 0) (Ok v.closing) (Err refusal.Overflow)

-- kind 0, the five numbers at 0, and spaces
abbrev pub no_closing : Closing
no_closing = blank 0 0 no_id

-- a closing; where it was refused, what stands beside the refusal's number
abbrev pub or_no_closing : Result Closing Refusal → Closing
or_no_closing (Ok k) = k
or_no_closing (Err r) = no_closing

-- what closing gives for a verdict
abbrev pub closed_as : Verdict → Closed
closed_as v = record { closing = closing_of v; next = closed_session }

-- closing: refusals 5, 6
unfoldable pub closed_of : Session → Closed
closed_of s = cond (in_range s) (closed_as (closing s.tally)) (record { closing = Err refusal.Session; next = s })

-- a whole message: refusals 1, 4, 2, 3, 15
unfoldable pub whole_refused : Lent → List ℕ → Outcome
whole_refused l t = by (open_refused l.day t) (list_refused l.lists) Err

-- judging it: then 6, and the verdict of the uncut message
unfoldable pub judged_of : Lent → List ℕ → List ℕ → Result Closing Refusal
judged_of l t m = by (whole_refused l t) (closing_of (verdict (rules l) t m)) Err

unfoldable pub table_judged : Lent → List ℕ → List ℕ → List ℕ
table_judged l t m = by (whole_refused l t) (table_after (rules l) t m) (λ r. t)

pub record JudgedAs (l : Lent) (t m : List ℕ) (r : Result Closing Refusal) (t' : List ℕ) : Type 0 where
  pub result : r ≡ judged_of l t m
  pub bytes : t' ≡ table_judged l t m
