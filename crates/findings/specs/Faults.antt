-- Tests of all the codes that rules give (01, Faults of the whole message).
-- Assumes nothing.
use Rattle.std.specs.Prelude.{Bool, true, false, ◌&&◌, List, [], ◌∷◌, ltb}
use Rattle.findings.specs.declared.Kind.{Kind}
use Rattle.findings.specs.declared.Kind.TheVariants.{Letter, Mark, Form, NotDigits, CheckDigit, NoDate}
use Rattle.findings.specs.declared.Kind.TheVariants.{OutsideDays, NotListed, Known, BlankOrZero, OutOfOrder, Other}
use Rattle.findings.specs.declared.Kind.TheVariants.{FormOfFirstEight, FormOfLastEight, CheckDigitOverEight, CheckDigitOverSixteen}
use Rattle.findings.specs.Codes.{Code, Ü, T, Rule}

-- a code of the whole message
abbrev pub is_whole : Code → Bool
is_whole (Ü n) = true
is_whole (T n) = false

-- a code is a number other than 0
abbrev pub is_code : Code → Bool
is_code (Ü n) = ltb 0 n
is_code (T n) = ltb 0 n

-- a code has at most two digits
abbrev pub is_short : Code → Bool
is_short (Ü n) = ltb n 100
is_short (T n) = ltb n 100

-- the kinds of fault, in 01's order as 02 #102 amends it
abbrev pub kinds : List Kind
kinds =
    Letter
    ∷ Mark
    ∷ Form
    ∷ FormOfFirstEight
    ∷ FormOfLastEight
    ∷ NotDigits
    ∷ CheckDigit
    ∷ CheckDigitOverEight
    ∷ CheckDigitOverSixteen
    ∷ NoDate
    ∷ OutsideDays
    ∷ NotListed
    ∷ Known
    ∷ BlankOrZero
    ∷ OutOfOrder
    ∷ Other
    ∷ []

-- each code that rules give passes a test, for each kind of fault
abbrev pub passes_each : (Code → Bool) → (Kind → Code) → List Kind → Bool
passes_each p c [] = true
passes_each p c (k ∷ ks) = p (c k) && passes_each p c ks

abbrev pub codes_pass : (Code → Bool) → List Rule → Bool
codes_pass p [] = true
codes_pass p (r ∷ rs) = passes_each p r.code kinds && codes_pass p rs
