-- Good and bad are as before, and so are form and check digit: what doesn't tell the halves apart sees an account as 01 has it (02 #102).
-- Assumes nothing.
use mathlib.Core.Path.{◌≡◌, refl, sym, ◌∙◌}
use mathlib.Core.Bool.{Bool, true, false, cond, not, ◌&&◌, ◌||◌}
use mathlib.Core.List.{List, [], ◌∷◌}
use Prim.Native.Nat.{ℕ}
use lib.ListN.{length}
use lib.Dec.{eqb}
use native.Mathlib.Omega.{arith}
use borrow.Author.Tests.{eqb-true, eq-eqb}
use Rattle.std.proofs.lemmas.Grind.{common_steps}
use Rattle.cdv.proofs.Weighing.{satisfying_digits}
use Rattle.std.proofs.Common.{Err, is_ok}
use Rattle.base.specs.Tables.{first_of}
use Rattle.text.specs.Text.{is_blank}
use Rattle.digits.specs.Digits.{is_digits}
use Rattle.cdv.specs.Check.{satisfies}
use Rattle.account.specs.declared.AccountFault.TheVariants.{FormOfFirstEight, FormOfLastEight, CheckDigitOverEight, CheckDigitOverSixteen}
use Rattle.account.specs.Account.{Account, Good, first_eight, last_eight, own, account_of, is_account}
use Rattle.account.proofs.Halves.{digits_in_halves, blank_no_digits}

-- for any answer on an account that is the same for both forms, and for both check digits
module _ {A : Type 0} (f : Account → A)
    (forms : f (Err FormOfFirstEight) ≡ f (Err FormOfLastEight))
    (checks : f (Err CheckDigitOverEight) ≡ f (Err CheckDigitOverSixteen)) where
  -- with eight spaces at the end: rows 2 and 4 are left
  eight : (d c : Bool)
      → f (first_of Good ((Err FormOfFirstEight, not d) ∷ (Err CheckDigitOverEight, not c) ∷ []))
      ≡ cond d (cond c (f Good) (f (Err CheckDigitOverEight))) (f (Err FormOfFirstEight))
  eight true true = refl
  eight true false = refl
  eight false c = refl

  -- with other bytes there: rows 2, 3 and 5 are left
  sixteen : (d e c : Bool)
      → f (first_of Good ((Err FormOfFirstEight, not d) ∷ (Err FormOfLastEight, not (e || false)) ∷ (Err CheckDigitOverSixteen, e && not c) ∷ []))
      ≡ cond (d && e) (cond c (f Good) (f (Err CheckDigitOverEight))) (f (Err FormOfFirstEight))
  sixteen true true true = refl
  sixteen true true false = sym checks
  sixteen true false c = sym forms
  sixteen false e c = refl

  -- the answer by 01's conditions: sixteen bytes whose own digits are digits, then annex 6 over them
  pub by_own : (s : List ℕ)
      → f (account_of s)
      ≡ cond (eqb (length s) 16 && is_digits (own s)) (cond (satisfies (own s)) (f Good) (f (Err CheckDigitOverEight))) (f (Err FormOfFirstEight))
  unfolding account_of
  by_own s = go (eqb (length s) 16) (is_blank (last_eight s)) refl refl
    where
      go : (l b : Bool) → eqb (length s) 16 ≡ l → is_blank (last_eight s) ≡ b
          → f (account_of s)
          ≡ cond (eqb (length s) 16 && is_digits (own s)) (cond (satisfies (own s)) (f Good) (f (Err CheckDigitOverEight))) (f (Err FormOfFirstEight))
      go false b p q = simp p
      go true true p q =
          simp (p, q, blank_no_digits s (eqb-true (length s) 16 p) q) (eight (is_digits (first_eight s)) (satisfies (first_eight s)))
      go true false p q =
          simp (p, q, digits_in_halves s) (sixteen (is_digits (first_eight s)) (is_digits (last_eight s)) (satisfies s))

both_tests : (a b : Bool) → cond a (cond b true false) false ≡ a && b
both_tests true true = refl
both_tests true false = refl
both_tests false b = refl

pub as_before : (s : List ℕ) → is_ok (account_of s) ≡ is_account s
unfolding is_account
as_before s = by_own is_ok refl refl s ∙ both_tests (eqb (length s) 16 && is_digits (own s)) (satisfies (own s))

-- so digits that satisfy the check digit make a good account
only_good : (a : Account) → is_ok a ≡ true → Good ≡ a
only_good a e = grind (arith, common_steps)

is_account_lem : (s : List ℕ) → length s ≡ 16 → satisfies (own s) ≡ true → is_account s ≡ true
unfolding is_account
is_account_lem s h e = simp (eq-eqb (length s) 16 h, satisfying_digits (own s) e, e)

pub good : (s : List ℕ) → length s ≡ 16 → satisfies (own s) ≡ true → Good ≡ account_of s
good s h e = only_good (account_of s) (as_before s ∙ is_account_lem s h e)
