-- The FEDSTA, the answer on cover: its bytes, when it is refused, and what it says (002 sections 4.1, 4.2; 02 #103).
-- Assumes nothing.
use Rattle.std.specs.Prelude.{ℕ, ◌≡◌, Bool, cond, not, ◌&&◌, List, [], ◌∷◌, ◌++◌, length, leb, eqb, Ok, Err}
use Rattle.base.specs.Bytes.{ascii, over}
use Rattle.base.specs.Tables.{first_of}
use Rattle.lent.specs.Lent.{Outcome, by}
use Rattle.lent.specs.declared.Refusal.TheVariants as refusal
use Rattle.frame.specs.declared.Status.{Status}
use Rattle.frame.specs.declared.Totals.{Totals}
use Rattle.cover.specs.Judging.{standing_of, stood}
use Rattle.status.specs.declared.reply.Particulars.{Particulars}
use Rattle.status.specs.Records.{head_record, foot_record}
use Rattle.status.specs.Reply.{are_particulars}

-- the head and the foot of a STATUS, with its own message type; no references
unfoldable pub fedsta_bytes : Status → List ℕ
fedsta_bytes s = head_record (ascii "FEDSTA") s ++ foot_record s

-- the answer that says there is cover
abbrev pub is_covered : ℕ → Bool
is_covered answer = eqb answer 0x31

-- the state that a standing answer gives: 1 gives 00, 0 gives 98, 9 gives 97, and 5, the only other that stands, gives 50
unfoldable pub state_of : ℕ → ℕ
state_of answer = first_of 50 ((0, is_covered answer) ∷ (98, eqb answer 0x30) ∷ (97, eqb answer 0x39) ∷ [])

-- a count and a sum where they belong, else zeros
unfoldable pub only_if : Bool → ℕ → ℕ → Totals
only_if b count sum = record { count = cond b count 0; sum = cond b sum 0 }

-- what a FEDSTA says: with state 00 the count given and the request's sum are accepted, with another they are refused
unfoldable pub cover_said : ℕ → List ℕ → Particulars → ℕ → ℕ → ℕ → Status
cover_said e id p count answer sum =
    record {
      duplicate = p.duplicate;
      id = id;
      date = e;
      number = p.number;
      time = p.time;
      code = state_of answer;
      accepted = only_if (is_covered answer) count sum;
      refused = only_if (not (is_covered answer)) count sum;
      references = 0;
    }

-- refusal 8: duplicate code, number and time as in a reply, and a count of six digits
unfoldable pub are_cover_particulars : Particulars → ℕ → Bool
are_cover_particulars p count = are_particulars p && leb count 999999

module _ (e : ℕ) (l m id : List ℕ) (covers : Bool) (p : Particulars) (count : ℕ) where
  -- the FEDSTA of the standing answer
  unfoldable pub fedsta : List ℕ
  fedsta = stood (standing_of e l m id) (λ s. fedsta_bytes (cover_said e id p count s.answer s.sum)) (λ r. [])

  -- 1, 11, 12, 13, 8, 9 in this order: 13 also where the answer is 1 and the bank has no cover
  unfoldable pub fedsta_outcome : List ℕ → Outcome
  fedsta_outcome out =
      stood (standing_of e l m id)
      (λ s. cond (is_covered s.answer && not covers)
      (Err refusal.Standing)
      (cond (are_cover_particulars p count)
      (cond (leb 104 (length out)) (Ok tt) (Err refusal.Room))
      (Err refusal.Particulars)))
      Err

  -- the output afterwards: the FEDSTA and what stood there beyond it; nothing is altered by a refused call
  unfoldable pub fedsta_output : List ℕ → List ℕ
  fedsta_output out = by (fedsta_outcome out) (over out 0 fedsta) (λ r. out)

  pub record WroteAs (out : List ℕ) (r : Outcome) (out' : List ℕ) : Type 0 where
    pub result : r ≡ fedsta_outcome out
    pub bytes : out' ≡ fedsta_output out
