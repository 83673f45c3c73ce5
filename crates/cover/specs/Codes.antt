-- The message code of a FEDJEL: a table in rank order (002 12.1.1, 12.2.1, 12.4.1; 02 #103).
-- Assumes nothing.
use Rattle.std.specs.Prelude.{ℕ, Bool, not, ◌&&◌, ◌||◌, List, [], ◌∷◌, ◌++◌}
use Rattle.base.specs.Bytes.{field}
use Rattle.base.specs.Groups.{all}
use Rattle.base.specs.Tables.{Row, first_given}
use Rattle.text.specs.Text.{is_plain}
use Rattle.digits.specs.Digits.{is_digits}
use Rattle.answers.specs.Fedjel.{head_of, items_of, foot_of}
use Rattle.answers.specs.Answers.{is_faulty}
use Rattle.cover.specs.Head.{head_rows}
use Rattle.cover.specs.Foot.{is_type, totals_of, totals_of_all, foot_rows}

-- each byte of each record is 20h to 7Eh; the endings don't count (002 12, the last note before 12.1)
unfoldable pub is_plain_message : List ℕ → Bool
is_plain_message m = is_plain (head_of m) && (all is_plain (items_of m) && is_plain (foot_of m))

-- an item's type is 02 or 03
unfoldable pub is_typed : List ℕ → Bool
is_typed it = is_type 0x32 it || is_type 0x33 it

-- an item's Ü faults, which refuse the whole message: type, sum
unfoldable pub whole_rows : List ℕ → List Row
whole_rows it = (46, not (is_typed it)) ∷ (34, not (is_digits (field 52 67 it))) ∷ []

-- those of each item, in order
unfoldable pub whole_rows_of_all : List (List ℕ) → List Row
whole_rows_of_all [] = []
whole_rows_of_all (it ∷ its) = whole_rows it ++ whole_rows_of_all its

-- the foot's, by the items
unfoldable pub last_rows : Bool → List ℕ → List Row
last_rows faulty m = foot_rows faulty (totals_of 0x32 (items_of m)) (totals_of 0x33 (items_of m)) (totals_of_all (items_of m)) (foot_of m)

-- every fault of the whole message, in rank order
unfoldable pub message_rows : Bool → ℕ → List (List ℕ) → List ℕ → List Row
message_rows faulty e rs m =
    (36, not (is_plain_message m))
    ∷ head_rows e rs (head_of m)
    ++ (whole_rows_of_all (items_of m)
    ++ last_rows faulty m)

-- the first of them, told whether some item is faulty
unfoldable pub code_with : Bool → ℕ → List (List ℕ) → List ℕ → ℕ
code_with faulty e rs m = first_given (message_rows faulty e rs m)

-- the message code
abbrev pub message_code : ℕ → List (List ℕ) → List ℕ → ℕ
message_code e rs m = code_with (is_faulty rs (items_of m)) e rs m
