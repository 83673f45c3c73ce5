-- The answer that names the first field with a fault (01, Calls and their answers: a single head or item).
-- Assumes nothing.
use Rattle.std.specs.Prelude.{List, [], ◌∷◌, Result, Ok, Err, ⊤}
use Rattle.findings.specs.declared.Kind.{Kind}
use Rattle.findings.specs.Findings.{Finding}
use Rattle.findings.specs.declared.Answer.{Answer}
use Rattle.findings.specs.declared.Answer.TheVariants.{Accepted}
use Rattle.findings.specs.Codes.{Rule}

-- a fault is named; where there is none, another answer holds
abbrev pub named_else : Finding → (Kind → Answer) → Answer → Answer
named_else (Ok u) n a = a
named_else (Err k) n a = n k

-- the first field with a fault is named, with its kind; the record is accepted where there is none
abbrev pub first_named : List Rule → Answer
first_named [] = Accepted
first_named (r ∷ rs) = named_else r.found r.named (first_named rs)

-- the first field with a fault is named; where there is none, another answer holds
abbrev pub named_or : List Rule → Answer → Answer
named_or [] a = a
named_or (r ∷ rs) a = named_else r.found r.named (named_or rs a)

-- the first field with a fault, named, as what ends the judging there; Ok where there is none
abbrev pub named_by : Finding → (Kind → Answer) → Result ⊤ Answer → Result ⊤ Answer
named_by (Ok u) n later = later
named_by (Err k) n later = Err (n k)

abbrev pub naming : List Rule → Result ⊤ Answer
naming [] = Ok tt
naming (r ∷ rs) = named_by r.found r.named (naming rs)

-- the answer of a judging, and another where it went through
abbrev pub else_answer : Result ⊤ Answer → Answer → Answer
else_answer (Ok u) a = a
else_answer (Err n) a = n
