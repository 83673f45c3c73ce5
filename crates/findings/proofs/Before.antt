-- No code tells a kind from the one that it came from: codes are as they were with 01's kinds (02 #102).
-- Assumes nothing.
use mathlib.Core.Path.{◌≡◌, refl, ap}
use mathlib.Core.List.{List, [], ◌∷◌, map}
use Rattle.base.specs.Each.{Each}
use Rattle.findings.specs.declared.Kind.{Kind}
use Rattle.findings.specs.declared.Kind.TheVariants.{Letter, Mark, Form, NotDigits, CheckDigit, NoDate}
use Rattle.findings.specs.declared.Kind.TheVariants.{OutsideDays, NotListed, Known, BlankOrZero, OutOfOrder, Other}
use Rattle.findings.specs.declared.Kind.TheVariants.{FormOfFirstEight, FormOfLastEight, CheckDigitOverEight, CheckDigitOverSixteen}
use Rattle.findings.specs.Findings.{Finding}
use Rattle.std.specs.Prelude.{Ok, Err}
use Rattle.findings.specs.Codes.{Code, Rule, always, digits_else, whole, alone, whole_code, item_code, first_whole, first_alone}
use Rattle.findings.specs.Before.{came_from, found_before, rule_before}

-- codes that a kind shares with the one that it came from
abbrev pub Alike : (Kind → Code) → Type 0
Alike c = (k : Kind) → c (came_from k) ≡ c k

pub always_alike : (x : Code) → Alike (always x)
always_alike x k = refl

pub else_alike : (x y : Code) → Alike (digits_else x y)
else_alike x y Letter = refl
else_alike x y Mark = refl
else_alike x y Form = refl
else_alike x y FormOfFirstEight = refl
else_alike x y FormOfLastEight = refl
else_alike x y NotDigits = refl
else_alike x y CheckDigit = refl
else_alike x y CheckDigitOverEight = refl
else_alike x y CheckDigitOverSixteen = refl
else_alike x y NoDate = refl
else_alike x y OutsideDays = refl
else_alike x y NotListed = refl
else_alike x y Known = refl
else_alike x y BlankOrZero = refl
else_alike x y OutOfOrder = refl
else_alike x y Other = refl

same_whole : (c : Kind → Code) → Alike c → (f : Finding) → whole_code c (found_before f) ≡ whole_code c f
same_whole c h (Ok u) = refl
same_whole c h (Err k) = ap whole (h k)

same_alone : (c : Kind → Code) → Alike c → (f : Finding) → item_code c (found_before f) ≡ item_code c f
same_alone c h (Ok u) = refl
same_alone c h (Err k) = ap alone (h k)

-- the first Ü code and the first T code of rules are those of what 01's kinds give
pub whole_before : (rs : List Rule) → Each (λ r. Alike r.code) rs → first_whole (map rule_before rs) ≡ first_whole rs
whole_before [] h = refl
whole_before (r ∷ rs) h = rw (same_whole r.code h.0 r.found, whole_before rs h.1)

pub alone_before : (rs : List Rule) → Each (λ r. Alike r.code) rs → first_alone (map rule_before rs) ≡ first_alone rs
alone_before [] h = refl
alone_before (r ∷ rs) h = rw (same_alone r.code h.0 r.found, alone_before rs h.1)
