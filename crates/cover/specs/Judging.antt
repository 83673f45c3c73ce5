-- Judging a FEDJEL, and the standing answer to a request: refusals and answers (02 #103).
-- Assumes nothing.
use Rattle.std.specs.Prelude.{ℕ, ◌≡◌, Bool, cond, ◌&&◌, List, [], length, get_or, leb, eqb, Result, Ok, Err}
use Rattle.base.specs.Bytes.{field}
use Rattle.base.specs.Groups.{some, place}
use Rattle.digits.specs.Digits.{number_of}
use Rattle.calendar.specs.Calendar.{is_date}
use Rattle.lent.specs.Lent.{Outcome, by}
use Rattle.lent.specs.declared.Refusal.{Refusal}
use Rattle.lent.specs.declared.Refusal.TheVariants as refusal
use Rattle.requests.specs.Requests.{requests_of, is_request_list, is_asked, request_of}
use Rattle.answers.specs.Fedjel.{item_count, items_of, is_fedjel}
use Rattle.answers.specs.Answers.{answer_of, rightly, table_after}
use Rattle.cover.specs.Codes.{message_code}
use Rattle.cover.specs.declared.Judged.{Judged}
use Rattle.cover.specs.declared.Standing.{Standing}

module _ (e : ℕ) (l m : List ℕ) where
  -- what is lent or given is refused: 1, 11, 12
  unfoldable pub lent_refused : Outcome
  lent_refused =
      cond (is_date e)
      (cond (is_request_list l)
      (cond (is_fedjel m) (Ok tt) (Err refusal.Fedjel))
      (Err refusal.RequestList))
      (Err refusal.NotADay)

  -- judging: 1, 11, 12, 9 in this order; else the message code and the number of items
  unfoldable pub judged : List ℕ → Result Judged Refusal
  judged t =
      by lent_refused
      (cond (leb (item_count m) (length t)) (Ok (record { code = message_code e (requests_of l) m; items = item_count m })) (Err refusal.Room))
      Err

  -- the table afterwards: each item's code; nothing is altered by a refused call
  unfoldable pub table_by : List ℕ → List ℕ
  table_by t = by lent_refused (cond (leb (item_count m) (length t)) (table_after (requests_of l) (items_of m) t) t) (λ r. t)

  pub record JudgedAs (t : List ℕ) (r : Result Judged Refusal) (t' : List ℕ) : Type 0 where
    pub result : r ≡ judged t
    pub table : t' ≡ table_by t

  -- the request with the identifier has a standing answer: it is in the list, the message code is 00, and some item answers it rightly
  unfoldable pub is_answered : List ℕ → Bool
  is_answered id =
      is_asked id (requests_of l)
      && (eqb (message_code e (requests_of l) m) 0 && some (rightly (request_of id (requests_of l))) (items_of m))

  -- the place of the first item that answers the request rightly
  abbrev pub place_of : List ℕ → ℕ
  place_of id = place (rightly (request_of id (requests_of l))) (items_of m)

  -- the standing answer to a request, the first item that answers it rightly: 1, 11, 12, 13 in this order; else its place, its answer and the
  -- request's sum
  unfoldable pub standing_of : List ℕ → Result Standing Refusal
  standing_of id =
      by lent_refused
      (cond (is_answered id)
      (Ok (record {
        place = place_of id;
        answer = answer_of (get_or (items_of m) (place_of id) []);
        sum = number_of (field 50 65 (request_of id (requests_of l)));
      }))
      (Err refusal.Standing))
      Err

-- what follows where an answer stands, and where none does
abbrev pub stood : {A : Type 0} → Result Standing Refusal → (Standing → A) → (Refusal → A) → A
stood (Ok s) f g = f s
stood (Err r) f g = g r
