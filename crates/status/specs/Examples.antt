-- The reply of 01's Examples, byte for byte: to a message whose only fault is the duplicate code X (code 42).
-- Assumes nothing.
use Rattle.std.specs.Prelude.{◌≡◌, refl, ◌++◌}
use Rattle.base.specs.Bytes.{ascii}
use Rattle.digits.specs.Digits.{figures}
use Rattle.frame.specs.Records.{ending, ended, is_foot, items_in, rest_after}
use Rattle.frame.specs.Verdict.{findings, message_code, verdict}
use Rattle.atutal.specs.Tables as atutal
use Rattle.kinds.specs.Kinds.{kind_of, tables}
use Rattle.kinds.specs.Codes.{head_rules, head_letter, head_code, item_rules, item_found}
use Rattle.kinds.specs.Examples.{one_item, given}
use Rattle.status.specs.declared.reply.Particulars.{Particulars}
use Rattle.status.specs.Records.{head_record, references, foot_record, written}
use Rattle.status.specs.Reply.{room, referred, reply}

-- reply code 0, number 7, time 083000
abbrev particulars : Particulars
particulars = record { duplicate = 0x30; number = 7; time = 83000 }

pub example_reply :
    reply given (one_item (ascii "X") (ascii "20200301")) particulars
    ≡ ascii "01STATUS0A12345676T00120200301000120200310000708300042" ++ ending
    ++ (ascii "0300000000000000000000000000000000000000000000" ++ ending)
unfolding reply written head_record references foot_record figures referred room verdict message_code findings items_in rest_after ended is_foot
    head_letter head_code head_rules item_found item_rules kind_of tables atutal.head_rules atutal.item_rules
example_reply = refl
