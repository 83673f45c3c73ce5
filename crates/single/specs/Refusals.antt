-- The refusals of a single record as rows, in 01's order (01, Calls and their answers).
-- Assumes nothing.
use Rattle.std.specs.Prelude.{ℕ, cond, not, ◌||◌, List, [], ◌∷◌, ◌++◌, length, eqb}
use Rattle.base.specs.Tables.{Row}
use Rattle.calendar.specs.Calendar.{is_date}
use Rattle.lent.specs.Lent.{Lent}
use Rattle.lent.specs.Refusals.{list_refusals}
use Rattle.frame.specs.Records.{lengths}
use Rattle.findings.specs.declared.Answer.{Answer}
use Rattle.findings.specs.Answers.{field_number, answer_number}

-- the number of a refusal, 0 for an answer that is none: acceptance, or a field that is named
abbrev pub refused_number : Answer → ℕ
refused_number a = cond (eqb (field_number a) 0) (answer_number a) 0

-- a single record: 1, 2, 3, 10; it knows no bar, and the empty list that stands for the barred one is never refused (02, #105)
abbrev pub single_refusals : Lent → List ℕ → List Row
single_refusals l r =
    (1, not (is_date l.day))
    ∷ list_refusals l.lists
    ++ ((10, not (eqb (length r) lengths.head || eqb (length r) lengths.item)) ∷ [])
