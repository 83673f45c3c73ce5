-- The example of 02 #103's reading: E 20200310, a list of one request, a FEDJEL of one item that answers it, and the days that a FEDJEL may have.
-- Assumes nothing.
use Rattle.std.specs.Prelude.{◌≡◌, refl, Ok, true, false, List, [], ◌∷◌, ◌++◌, map, ℕ}
use Rattle.base.specs.Bytes.{ascii, over}
use Rattle.digits.specs.Digits.{number_of}
use Rattle.calendar.specs.Calendar.{leap, is_date, days_of_years, days_of_months, days_to, day_number}
use Rattle.calendar.specs.DateField.{date_field}
use Rattle.std.specs.Prelude.{Ok}
use Rattle.frame.specs.Records.{ending, ended}
use Rattle.requests.specs.Requests.{has_id, keeps, are_requests, is_request_list, request_of}
use Rattle.answers.specs.Fedjel.{is_fedjel}
use Rattle.answers.specs.Answers.{together, rightly, item_code, codes_to}
use Rattle.cover.specs.Head.{is_number, days_back, workday_before, sent_on, head_rows}
use Rattle.cover.specs.Foot.{is_type, amount_of, are_together, typed_rows, joint_rows, foot_rows}
use Rattle.cover.specs.Codes.{is_plain_message, is_typed, whole_rows, whole_rows_of_all, last_rows, message_rows, code_with}
use Rattle.cover.specs.Judging.{lent_refused, judged, table_by, is_answered, standing_of}

abbrev pub request : List ℕ
request = ascii "A12345676T001202003010001" ++ ascii "117730161111101800000000" ++ ascii "0000000000012345"

abbrev pub id : List ℕ
id = ascii "A12345676T001202003010001"

-- 150 bytes: the item's type and answer, and the foot's two halves
abbrev pub message : List ℕ → List ℕ → List ℕ → List ℕ → List ℕ
message type answer first second =
    ascii "01FEDJEL011720200310000120200310" ++ ending
    ++ (type ++ request ++ answer ++ ascii "00" ++ ending)
    ++ (ascii "04" ++ first ++ second ++ ending)

abbrev pub covered : List ℕ
covered = message (ascii "02") (ascii "1") (ascii "00010000000000012345") (ascii "00000000000000000000")

abbrev pub refused : List ℕ
refused = message (ascii "03") (ascii "0") (ascii "00000000000000000000") (ascii "00010000000000012345")

-- code 00, one item with code 0, which stands
pub example_fedjel :
    (judged 20200310 request covered (9 ∷ 9 ∷ []) ≡ Ok (record { code = 0; items = 1 }))
    × (table_by 20200310 request covered (9 ∷ 9 ∷ []) ≡ 0 ∷ 9 ∷ [])
unfolding over judged table_by lent_refused is_request_list are_requests is_fedjel ended code_with message_rows is_plain_message head_rows sent_on date_field
    is_number number_of keeps whole_rows_of_all whole_rows is_typed last_rows foot_rows typed_rows joint_rows are_together is_type amount_of item_code codes_to
    has_id request_of rightly together days_back workday_before leap is_date days_of_years days_of_months days_to day_number
example_fedjel = (refl, refl)

pub example_standing :
    (standing_of 20200310 request covered id ≡ Ok (record { place = 0; answer = 0x31; sum = 12345 }))
    × (standing_of 20200310 request refused id ≡ Ok (record { place = 0; answer = 0x30; sum = 12345 }))
unfolding standing_of is_answered lent_refused is_request_list are_requests is_fedjel ended code_with message_rows is_plain_message head_rows sent_on date_field
    is_number number_of keeps whole_rows_of_all whole_rows is_typed last_rows foot_rows typed_rows joint_rows are_together is_type amount_of item_code codes_to
    has_id request_of rightly together days_back workday_before leap is_date days_of_years days_of_months days_to day_number
example_standing = (refl, refl)

-- E is a Monday: Friday to Monday; E is a Tuesday: Monday; E is the first date
pub example_days :
    map (λ d. sent_on 20200309 (Ok d)) (20200305 ∷ 20200306 ∷ 20200308 ∷ 20200309 ∷ 20200310 ∷ [])
    ++ (map (λ d. sent_on 20200310 (Ok d)) (20200308 ∷ 20200309 ∷ []) ++ map (λ d. sent_on 10101 (Ok d)) (10101 ∷ []))
    ≡ false ∷ true ∷ true ∷ true ∷ false ∷ false ∷ true ∷ true ∷ []
unfolding sent_on days_back workday_before leap is_date days_of_years days_of_months days_to day_number
example_days = refl
