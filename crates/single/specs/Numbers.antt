-- The answer on a single record as a number (01, Calls and their answers; include/nshanvekh.h).
-- Assumes nothing.
use Rattle.std.specs.Prelude.{ℕ, ◌+◌, ◌*◌}
use Rattle.findings.specs.declared.Answer.{Answer}
use Rattle.findings.specs.Answers.{field_number, answer_number}

-- 0 for acceptance; a refusal's number; else 100 times the field's number and the kind's in 01's order
unfoldable pub single_number : Answer → ℕ
single_number a = field_number a * 100 + answer_number a
