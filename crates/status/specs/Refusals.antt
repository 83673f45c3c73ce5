-- The refusals of a reply and of a FEDSTA as rows, in their order (01, Calls and their answers; 02 #103).
-- Assumes nothing.
use Rattle.std.specs.Prelude.{ℕ, Bool, not, ◌&&◌, ◌||◌, List, [], ◌∷◌, ◌++◌, length, get_or, leb}
use Rattle.base.specs.Tables.{Row}
use Rattle.calendar.specs.Calendar.{is_date}
use Rattle.lent.specs.Lent.{Lent}
use Rattle.lent.specs.Refusals.{list_refusals}
use Rattle.frame.specs.Verdict.{overflows}
use Rattle.kinds.specs.Codes.{rules}
use Rattle.answers.specs.Fedjel.{items_of}
use Rattle.answers.specs.Answers.{answer_of}
use Rattle.cover.specs.Judging.{is_answered, place_of}
use Rattle.cover.specs.Refusals.{lent_rows}
use Rattle.status.specs.declared.reply.Particulars.{Particulars}
use Rattle.status.specs.Reply.{has_address, are_particulars, room, reply}
use Rattle.status.specs.CoverStatus.{is_covered, are_cover_particulars}

-- a reply: 1, 2, 3, 15, 6, 7, 8, 9
abbrev pub reply_refusals : Lent → List ℕ → Particulars → List ℕ → List Row
reply_refusals l m p out =
    (1, not (is_date l.day))
    ∷ list_refusals l.lists
    ++ ((6, overflows (rules l) room m)
    ∷ (7, not (has_address m))
    ∷ (8, not (are_particulars p))
    ∷ (9, not (leb (length (reply l m p)) (length out)))
    ∷ [])

-- a FEDSTA: 1, 11, 12, 13, 8, 9; 13 where no answer stands, or where it is 1 and the bank has no cover
abbrev pub fedsta_refusals : ℕ → List ℕ → List ℕ → List ℕ → Bool → Particulars → ℕ → List ℕ → List Row
fedsta_refusals e l m id covers p count out =
    lent_rows e l m
    ++ ((13, not (is_answered e l m id) || (is_covered (answer_of (get_or (items_of m) (place_of e l m id) [])) && not covers))
    ∷ (8, not (are_cover_particulars p count))
    ∷ (9, not (leb 104 (length out)))
    ∷ [])
