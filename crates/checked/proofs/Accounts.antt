-- What is found in an account is what 01 finds, by the kinds that the finer ones came from (02 #102).
-- Assumes nothing.
use mathlib.Core.Path.{◌≡◌, refl, ◌∙◌}
use mathlib.Core.Bool.{Bool, true, false, cond, ◌&&◌}
use mathlib.Core.List.{List}
use Prim.Native.Nat.{ℕ}
use lib.ListN.{length}
use lib.Dec.{eqb}
use Rattle.digits.specs.Digits.{is_digits}
use Rattle.cdv.specs.Check.{satisfies}
use Rattle.account.specs.Account.{own, account_of}
use Rattle.account.proofs.AsBefore.{by_own}
use Rattle.std.specs.Prelude.{Err}
use Rattle.findings.specs.declared.Kind.TheVariants.{Form, CheckDigit}
use Rattle.findings.specs.Findings.{Right, unless}
use Rattle.findings.specs.Before.{found_before}
use Rattle.checked.specs.Checked.{account_found}

by_tests : (a b : Bool) → cond a (cond b Right (Err CheckDigit)) (Err Form) ≡ unless a Form (unless b CheckDigit Right)
by_tests true true = refl
by_tests true false = refl
by_tests false b = refl

-- form: not sixteen digits, nor eight digits and eight spaces; then check digit over its digits
pub account_before : (s : List ℕ)
    → found_before (account_found (account_of s))
    ≡ unless (eqb (length s) 16 && is_digits (own s)) Form (unless (satisfies (own s)) CheckDigit Right)
account_before s =
    by_own (λ a. found_before (account_found a)) refl refl s ∙ by_tests (eqb (length s) 16 && is_digits (own s)) (satisfies (own s))
