-- The number of a reply's answer, and of a FEDSTA's, is that of the first row whose condition holds.
-- Assumes nothing.
use mathlib.Core.Path.{◌≡◌, refl}
use mathlib.Core.Bool.{Bool, true, false, cond, not, ◌&&◌, ◌||◌}
use mathlib.Core.List.{List, [], ◌∷◌}
use Prim.Native.Nat.{ℕ}
use lib.ListN.{length, get_or}
use lib.Dec.{leb}
use Rattle.base.specs.Bytes.{field}
use Rattle.base.specs.Tables.{first_given}
use Rattle.digits.specs.Digits.{number_of}
use Rattle.base.proofs.Tables.{ByRows, asked, barred}
use Rattle.calendar.specs.Calendar.{is_date}
use Rattle.lent.specs.Lent.{Lent, Outcome, outcome_number, by}
use Rattle.std.specs.Prelude.{Result, Ok, Err}
use Rattle.lent.specs.declared.Refusal.{Refusal}
use Rattle.lent.specs.declared.Refusal.TheVariants.{
  NotADay,
  Overflow,
  Address,
  Particulars as WrongParticulars,
  Room,
  RequestList,
  Fedjel,
  Standing,
}
use Rattle.lent.proofs.Refusals.{after_lists}
use Rattle.frame.specs.Verdict.{overflows}
use Rattle.kinds.specs.Codes.{rules}
use Rattle.requests.specs.Requests.{requests_of, is_request_list, request_of}
use Rattle.answers.specs.Fedjel.{items_of, is_fedjel}
use Rattle.answers.specs.Answers.{answer_of}
use Rattle.cover.specs.Judging.{lent_refused, is_answered, place_of, standing_of, stood}
use Rattle.status.specs.declared.reply.Particulars.{Particulars}
use Rattle.status.specs.Reply.{has_address, are_particulars, room, reply, answer}
use Rattle.status.specs.CoverStatus.{is_covered, are_cover_particulars, fedsta_outcome}
use Rattle.status.specs.Refusals.{reply_refusals, fedsta_refusals}

-- a reply is written
written : (n : ℕ) → ByRows {A = Result ℕ Refusal} outcome_number (Ok n) []
written n = record { is = refl }

-- a reply: 1, 2, 3, 15, 6, 7, 8, 9
pub replied : (l : Lent) (m : List ℕ) (p : Particulars) (out : List ℕ) → outcome_number (answer l m p out) ≡ first_given (reply_refusals l m p out)
unfolding answer
replied l m p out =
    (asked (is_date l.day) (Err NotADay)
    (after_lists Err (λ r. refl) l.lists
    (barred (overflows (rules l) room m) (Err Overflow)
    (asked (has_address m) (Err Address)
    (asked (are_particulars p) (Err WrongParticulars)
    (asked (leb (length (reply l m p)) (length out)) (Err Room) (written (length (reply l m p))))))))).is

-- a FEDSTA: 1, 11, 12, 13, 8, 9
pub fedsta : (e : ℕ) (l m id : List ℕ) (covers : Bool) (p : Particulars) (count : ℕ) (out : List ℕ)
    → outcome_number (fedsta_outcome e l m id covers p count out) ≡ first_given (fedsta_refusals e l m id covers p count out)
unfolding fedsta_outcome standing_of lent_refused
fedsta e l m id covers p count out = go (is_date e) (is_request_list l) (is_fedjel m) (is_answered e l m id)
  where
    k : ℕ
    k = place_of e l m id

    x : ℕ
    x = answer_of (get_or (items_of m) k [])

    y : ℕ
    y = number_of (field 50 65 (request_of id (requests_of l)))

    f : Bool
    f = are_cover_particulars p count

    s : Bool
    s = leb 104 (length out)

    last : (c f s : Bool)
        → outcome_number (cond {A = Outcome} c (Err Standing) (cond f (cond s (Ok tt) (Err Room)) (Err WrongParticulars)))
        ≡ first_given ((13, c) ∷ (8, not f) ∷ (9, not s) ∷ [])
    last true f s = refl
    last false false s = refl
    last false true false = refl
    last false true true = refl

    go : (d r j b : Bool)
        → outcome_number (stood
        (by (cond {A = Outcome} d (cond r (cond j (Ok tt) (Err Fedjel)) (Err RequestList)) (Err NotADay))
        (cond b (Ok (record { place = k; answer = x; sum = y })) (Err Standing)) Err)
        (λ z. cond {A = Outcome} (is_covered z.answer && not covers) (Err Standing) (cond f (cond s (Ok tt) (Err Room)) (Err WrongParticulars)))
        Err)
        ≡ first_given ((1, not d) ∷ (11, not r) ∷ (12, not j) ∷ (13, not b || (is_covered x && not covers)) ∷ (8, not f) ∷ (9, not s) ∷ [])
    go false r j b = refl
    go true false j b = refl
    go true true false b = refl
    go true true true false = refl
    go true true true true = last (is_covered x && not covers) f s
