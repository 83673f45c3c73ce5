-- Account fields (01, Digits and dates; 02 #102; 002 annex 6).
-- Assumes nothing.
use Rattle.std.specs.Prelude.{ℕ, Bool, cond, not, ◌&&◌, ◌||◌, List, [], ◌∷◌, length, take, drop, eqb, Result, Ok, Err, ⊤}
use Rattle.base.specs.Bytes.{every}
use Rattle.base.specs.Tables.{first_of}
use Rattle.text.specs.Text.{is_blank}
use Rattle.digits.specs.Digits.{is_digits}
use Rattle.cdv.specs.Check.{satisfies}
use Rattle.account.specs.declared.AccountFault.{AccountFault}
use Rattle.account.specs.declared.AccountFault.TheVariants.{FormOfFirstEight, FormOfLastEight, CheckDigitOverEight, CheckDigitOverSixteen}

-- what a field is found to be: good, or why it holds no account
abbrev pub Account : Type 0
Account = Result ⊤ AccountFault

abbrev pub Good : Account
Good = Ok tt

-- the halves of an account field: head 43-50 and 51-58, item 35-42 and 43-50
abbrev pub first_eight : List ℕ → List ℕ
first_eight s = take 8 s

abbrev pub last_eight : List ℕ → List ℕ
last_eight s = drop 8 s

-- what a field is found to be, and when: the first row that applies (02 #102); only one of sixteen bytes is an account
abbrev pub account_rows : List ℕ → List (Account × Bool)
account_rows s =
    (Err FormOfFirstEight, not (eqb (length s) 16))
    ∷ (Err FormOfFirstEight, not (is_digits (first_eight s)))
    ∷ (Err FormOfLastEight, not (is_digits (last_eight s) || is_blank (last_eight s)))
    ∷ (Err CheckDigitOverEight, is_blank (last_eight s) && not (satisfies (first_eight s)))
    ∷ (Err CheckDigitOverSixteen, is_digits (last_eight s) && not (satisfies s))
    ∷ []

-- what a field is found to be; good where no row applies
unfoldable pub account_of : List ℕ → Account
account_of s = first_of Good (account_rows s)

-- the digits of an account field: its first eight where eight spaces follow, else all sixteen
abbrev pub own : List ℕ → List ℕ
own s = cond (is_blank (last_eight s)) (first_eight s) s

-- an account as 01 has it: sixteen digits, or eight digits and eight spaces, that satisfy annex 6
unfoldable pub is_account : List ℕ → Bool
is_account s = (eqb (length s) 16 && is_digits (own s)) && satisfies (own s)

-- '0'
abbrev pub zero : ℕ → Bool
zero b = eqb b 48

-- an account with zeros for its digits
unfoldable pub is_zero_account : List ℕ → Bool
is_zero_account s = eqb (length s) 16 && every zero (own s)
