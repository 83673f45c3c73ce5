-- The examples of 01 and 02 (#102) on accounts: fields, and what each is found to be.
-- Assumes nothing.
use Rattle.std.specs.Prelude.{ℕ, ◌≡◌, refl, List, [], ◌∷◌, map, Err}
use Rattle.base.specs.Bytes.{ascii}
use Rattle.cdv.specs.Check.{satisfies}
use Rattle.account.specs.Account.{Account, Good, account_of}
use Rattle.account.specs.declared.AccountFault.TheVariants.{FormOfFirstEight, FormOfLastEight, CheckDigitOverEight, CheckDigitOverSixteen}

abbrev pub examples : List (List ℕ × Account)
examples =
    (ascii "12345676        ", Good)
    ∷ (ascii "1234567600000000", Good)
    ∷ (ascii "0000000000000000", Good)
    ∷ (ascii "00000000        ", Good)
    ∷ (ascii "12345677        ", Err CheckDigitOverEight)
    ∷ (ascii "1234567612345677", Err CheckDigitOverSixteen)
    ∷ (ascii "1234567 12345676", Err FormOfFirstEight)
    ∷ (ascii "1234567 1234567 ", Err FormOfFirstEight)
    ∷ (ascii "                ", Err FormOfFirstEight)
    ∷ (ascii "        12345676", Err FormOfFirstEight)
    ∷ (ascii "123456760       ", Err FormOfLastEight)
    ∷ (ascii "12345676       0", Err FormOfLastEight)
    ∷ (ascii "123456771234567 ", Err FormOfLastEight)
    ∷ []

pub as_02_says : map (λ x. account_of x.0) examples ≡ map (λ x. x.1) examples
unfolding account_of satisfies
as_02_says = refl
