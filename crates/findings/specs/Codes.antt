-- A rule: a field's name, its codes and what is found in it; and the codes that follow from a list of rules in their order
-- (01, Faults of the whole message; Item rules).
-- Assumes nothing.
use Rattle.std.specs.Prelude.{ℕ, List, map, Result, ⊤}
use Rattle.frame.specs.Verdict.{first}
use Rattle.findings.specs.declared.Kind.{Kind}
use Rattle.findings.specs.declared.Kind.TheVariants.{Letter, Mark, Form, NotDigits, CheckDigit, NoDate}
use Rattle.findings.specs.declared.Kind.TheVariants.{OutsideDays, NotListed, Known, BlankOrZero, OutOfOrder, Other}
use Rattle.findings.specs.declared.Kind.TheVariants.{FormOfFirstEight, FormOfLastEight, CheckDigitOverEight, CheckDigitOverSixteen}
use Rattle.findings.specs.Findings.{Finding}
use Rattle.std.specs.Prelude.{Ok, Err}
use Rattle.findings.specs.declared.Answer.{Answer}

-- a code of the whole message, or of an item alone (the marks Ü and T of the standard)
pub data Code : Type 0 where
  Ü : ℕ → Code
  T : ℕ → Code

-- a field: how the answer on a single record names it, its codes, and what is found in it
pub record Rule : Type 0 where
  pub named : Kind → Answer
  pub code : Kind → Code
  pub found : Finding

abbrev pub rule : (Kind → Answer) → (Kind → Code) → Finding → Rule
rule n c f = record { named = n; code = c; found = f }

-- one code for each kind of fault
abbrev pub always : Code → Kind → Code
always c k = c

-- one code for what isn't digits, another for the rest
abbrev pub digits_else : {A : Type 0} → A → A → Kind → A
digits_else c d Letter = d
digits_else c d Mark = d
digits_else c d Form = d
digits_else c d FormOfFirstEight = d
digits_else c d FormOfLastEight = d
digits_else c d NotDigits = c
digits_else c d CheckDigit = d
digits_else c d CheckDigitOverEight = d
digits_else c d CheckDigitOverSixteen = d
digits_else c d NoDate = d
digits_else c d OutsideDays = d
digits_else c d NotListed = d
digits_else c d Known = d
digits_else c d BlankOrZero = d
digits_else c d OutOfOrder = d
digits_else c d Other = d

-- the Ü code of a field, 0 where it has none
abbrev pub whole : Code → ℕ
whole (Ü n) = n
whole (T n) = 0

abbrev pub whole_code : (Kind → Code) → Finding → ℕ
whole_code c (Ok u) = 0
whole_code c (Err k) = whole (c k)

-- the T code of a field, 0 where it has none
abbrev pub alone : Code → ℕ
alone (Ü n) = 0
alone (T n) = n

abbrev pub item_code : (Kind → Code) → Finding → ℕ
item_code c (Ok u) = 0
item_code c (Err k) = alone (c k)

-- c for what isn't digits, d for the rest, 0 where nothing is wrong
abbrev pub either_code : ℕ → ℕ → Finding → ℕ
either_code c d (Ok u) = 0
either_code c d (Err k) = digits_else c d k

-- the code of a fault, 0 where there is none
abbrev pub code_of : Result ⊤ ℕ → ℕ
code_of (Ok u) = 0
code_of (Err c) = c

-- the first Ü code, and the first T code
abbrev pub first_whole : List Rule → ℕ
first_whole rs = first (map (λ r. whole_code r.code r.found) rs)

abbrev pub first_alone : List Rule → ℕ
first_alone rs = first (map (λ r. item_code r.code r.found) rs)
