-- What the checks of a STATUS's parts ask and give.
-- Assumes nothing.
use Rattle.std.specs.Prelude.{Bool, cond, ◌&&◌, List, ℕ, ◌+◌, ◌-◌, ◌*◌, ◌%◌, Option, Some, None, length, take, drop, leb, ltb, eqb}
use Rattle.digits.specs.Digits.{number_of}
use Rattle.frame.specs.declared.Totals.{Totals}
use Rattle.frame.specs.declared.Status.{Status}
use Rattle.reading.specs.Reading.{head_in, references_in, foot_in, head_right, references_right, foot_right, codes_in, zeros_in, status_in, counts_right}

-- the lengths are those of a head, references and a foot
unfoldable pub has_lengths : List ℕ → Bool
has_lengths x = leb 104 (length x) && eqb ((length x - 104) % 65) 0

-- the head, the references, the foot and the counts are right
unfoldable pub parts_right : List ℕ → Bool
parts_right x =
    head_right (head_in x)
    && (references_right 1 (references_in x) && (foot_right (foot_in x) && counts_right (status_in x) (codes_in x)))

-- the reference with i before it
abbrev pub reference_at : ℕ → List ℕ → List ℕ
reference_at i x = take 65 (drop (56 + 65 * i) x)

-- how many have code 00, where each reference is right
abbrev pub zeros_of : List ℕ → Option ℕ
zeros_of x = cond (references_right 1 (references_in x)) (Some (zeros_in (codes_in x))) None

-- six digits and sixteen, from a place of the foot on
abbrev pub totals_at : ℕ → List ℕ → Totals
totals_at at f = record { count = number_of (take 6 (drop at f)); sum = number_of (take 16 (drop (at + 6) f)) }

-- the counts, by how many references have code 00 and how many have another
unfoldable pub counts_are : Status → ℕ → ℕ → Bool
counts_are s zeros others =
    eqb s.accepted.count zeros
    && (eqb s.refused.count others
    && cond (eqb s.code 0)
    (ltb 0 s.references)
    (eqb s.references 0 && (eqb s.accepted.sum 0 && eqb s.refused.sum 0)))
