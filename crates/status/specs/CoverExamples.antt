-- The FEDSTAs of 02 #103's reading, byte for byte: from an answer 1 with cover, and from an answer 0, whatever cover is.
-- Assumes nothing.
use Rattle.std.specs.Prelude.{◌≡◌, refl, true, false, ◌++◌}
use Rattle.base.specs.Bytes.{ascii}
use Rattle.digits.specs.Digits.{number_of, figures}
use Rattle.calendar.specs.Calendar.{leap, is_date, days_of_years, days_of_months, days_to, day_number}
use Rattle.calendar.specs.DateField.{date_field}
use Rattle.frame.specs.Records.{ending, ended}
use Rattle.requests.specs.Requests.{has_id, keeps, are_requests, is_request_list, request_of}
use Rattle.answers.specs.Fedjel.{is_fedjel}
use Rattle.answers.specs.Answers.{together, rightly, item_code, codes_to}
use Rattle.cover.specs.Head.{is_number, days_back, workday_before, sent_on, head_rows}
use Rattle.cover.specs.Foot.{is_type, amount_of, are_together, typed_rows, joint_rows, foot_rows}
use Rattle.cover.specs.Codes.{is_plain_message, is_typed, whole_rows, whole_rows_of_all, last_rows, message_rows, code_with}
use Rattle.cover.specs.Judging.{lent_refused, is_answered, standing_of}
use Rattle.cover.specs.Examples.{request, id, covered, refused}
use Rattle.status.specs.declared.reply.Particulars.{Particulars}
use Rattle.status.specs.Records.{head_record, foot_record}
use Rattle.status.specs.CoverStatus.{fedsta_bytes, state_of, only_if, cover_said, fedsta}

-- duplicate code 0, number 7, time 083000
abbrev particulars : Particulars
particulars = record { duplicate = 0x30; number = 7; time = 83000 }

pub example_fedsta :
    (fedsta 20200310 request covered id true particulars 3
    ≡ ascii "01FEDSTA0A12345676T00120200301000120200310000708300000" ++ ending
    ++ (ascii "0300000300000000000123450000000000000000000000" ++ ending))
    × (fedsta 20200310 request refused id false particulars 3
    ≡ ascii "01FEDSTA0A12345676T00120200301000120200310000708300098" ++ ending
    ++ (ascii "0300000000000000000000000000030000000000012345" ++ ending))
unfolding fedsta fedsta_bytes head_record foot_record figures cover_said state_of only_if standing_of is_answered lent_refused is_request_list are_requests
    is_fedjel ended
    code_with message_rows is_plain_message head_rows sent_on date_field is_number number_of keeps whole_rows_of_all whole_rows is_typed last_rows foot_rows
    typed_rows joint_rows
    are_together is_type amount_of item_code codes_to has_id request_of rightly together days_back workday_before leap is_date days_of_years days_of_months
    days_to day_number
example_fedsta = (refl, refl)
