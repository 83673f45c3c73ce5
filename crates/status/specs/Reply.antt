-- The reply to a message: when it is refused, and its bytes (01, Calls and their answers).
-- Assumes nothing.
use Rattle.std.specs.Prelude.{ℕ, ◌+◌, ◌/◌, ◌%◌, ◌≡◌, Bool, cond, ◌&&◌, List, [], map, length, replicate, leb, eqb, Result, Ok, Err}
use Rattle.base.specs.Bytes.{field, over}
use Rattle.calendar.specs.Calendar.{is_date}
use Rattle.lent.specs.Lent.{Lent, list_refused, by}
use Rattle.frame.specs.Records.{lengths, items_of}
use Rattle.frame.specs.Verdict.{Verdict, found_in, overflows, verdict}
use Rattle.kinds.specs.Codes.{rules}
use Rattle.lent.specs.declared.Refusal.{Refusal}
use Rattle.lent.specs.declared.Refusal.TheVariants.{NotADay, Overflow, Address, Particulars as WrongParticulars, Room}
use Rattle.frame.specs.declared.Closing.{Closing}
use Rattle.judge.specs.Session.{most}
use Rattle.frame.specs.declared.Status.{Status}
use Rattle.status.specs.declared.reply.Particulars.{Particulars}
use Rattle.status.specs.Records.{written, is_address}
use Rattle.fields.specs.Fields.{is_duplicate}

-- refusal 7: the message has an address for the reply
unfoldable pub has_address : List ℕ → Bool
has_address m = leb 34 (length m) && is_address (field 10 34 m)

-- hhmmss, 000000 to 235959
unfoldable pub is_time : ℕ → Bool
is_time t = leb (t / 10000) 23 && (leb (t / 100 % 100) 59 && leb (t % 100) 59)

-- refusal 8
unfoldable pub are_particulars : Particulars → Bool
are_particulars p = is_duplicate p.duplicate && (leb p.number 9999 && is_time p.time)

-- what a reply says: the order's positions 10-34, the date and the particulars, the closing; a reference for each item counted
abbrev pub saying : ℕ → List ℕ → Particulars → Closing → Status
saying e id p c =
    record {
      duplicate = p.duplicate;
      id = id;
      date = e;
      number = p.number;
      time = p.time;
      code = c.code;
      accepted = c.accepted;
      refused = c.refused;
      references = c.accepted.count + c.refused.count;
    }

-- a reply is for no more items than a table may have bytes
unfoldable pub room : List ℕ
room = replicate most 0

module _ (l : Lent) (m : List ℕ) where
  -- the verdict that a session gives with such a table
  abbrev pub verdict_of : Verdict
  verdict_of = verdict (rules l) room m

  -- the items' codes, in order
  abbrev pub codes_of : List ℕ
  codes_of = map (λ f. f.code) (found_in (rules l) m)

  -- with a code other than 00 there are no references
  unfoldable pub referred : List ℕ
  referred = cond (eqb verdict_of.closing.code 0) codes_of []

  -- what the reply says
  abbrev pub said : Particulars → Status
  said p = saying l.day (field 10 34 m) p verdict_of.closing

  unfoldable pub reply : Particulars → List ℕ
  reply p = written (said p) referred (items_of lengths m)

  -- refusals 1, 2, 3, 15, 6, 7, 8, 9 in this order; else the length
  unfoldable pub answer : Particulars → List ℕ → Result ℕ Refusal
  answer p out =
      cond (is_date l.day)
      (by (list_refused l.lists)
      (cond (overflows (rules l) room m)
      (Err Overflow)
      (cond (has_address m)
      (cond (are_particulars p)
      (cond (leb (length (reply p)) (length out)) (Ok (length (reply p))) (Err Room))
      (Err WrongParticulars))
      (Err Address)))
      Err)
      (Err NotADay)

  -- the output afterwards: the reply and what stood there beyond it; nothing is altered by a refused call
  unfoldable pub output : Particulars → List ℕ → List ℕ
  output p out = put (answer p out)
    where
      put : Result ℕ Refusal → List ℕ
      put (Ok n) = over out 0 (reply p)
      put (Err r) = out

pub record Replied (l : Lent) (m : List ℕ) (p : Particulars) (out : List ℕ) (r : Result ℕ Refusal) (out' : List ℕ) : Type 0 where
  pub result : r ≡ answer l m p out
  pub bytes : out' ≡ output l m p out
