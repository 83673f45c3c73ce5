-- The refusals of the lists come before what follows.
-- Assumes nothing.
use mathlib.Core.Path.{◌≡◌, refl}
use mathlib.Core.Bool.{Bool, true, false, cond, not}
use mathlib.Core.List.{List, [], ◌∷◌, ◌++◌}
use Prim.Native.Nat.{ℕ}
use native.Mathlib.Omega.{arith}
use Rattle.base.specs.Tables.{Row, first_given}
use Rattle.base.proofs.Tables.{ByRows, asked}
use Rattle.lists.specs.Banks.{is_bank_list, is_barred_list}
use Rattle.lists.specs.Known.{is_known_list}
use Rattle.lent.specs.declared.Refusal.{Refusal}
use Rattle.lent.specs.declared.Refusal.TheVariants.{BankList, KnownList, BarredList}
use Rattle.lent.specs.Lent.{Lists, Outcome, refusal_number, outcome_number, by, list_refused}
use Rattle.std.proofs.Common.{Ok, Err}
use Rattle.lent.specs.Refusals.{list_refusals}

-- nothing is refused
pub done : ByRows {A = Outcome} outcome_number (Ok tt) []
done = record { is = refl }

-- a call whose outcome is that of its tests
pub as_tested : {A : Type 0} (outcome : A → Outcome) (o : Outcome) (a : A) (f : Refusal → A)
    → outcome a ≡ (Ok tt) → ((r : Refusal) → outcome (f r) ≡ Err r) → outcome (by o a f) ≡ o
as_tested outcome (Ok tt) a f p q = p
as_tested outcome (Err r) a f p q = q r

-- the lists, and then what follows
module _ {A : Type 0} {number : A → ℕ} (f : Refusal → A) (k : (r : Refusal) → number (f r) ≡ refusal_number r) where
  pub after_lists : (l : Lists) {a : A} {rs : List Row} → ByRows number a rs → ByRows number (by (list_refused l) a f) (list_refusals l ++ rs)
  unfolding list_refused
  after_lists l {a} {rs} w = go (is_bank_list l.banks) (is_known_list l.known) (is_barred_list l.barred)
    where
      go : (b c d : Bool)
          → ByRows number (by (cond b (cond c (cond d (Ok tt) (Err BarredList)) (Err KnownList)) (Err BankList)) a f)
          ((2, not b) ∷ (3, not c) ∷ (15, not d) ∷ rs)
      go true true true = record { is = w.is }
      go true true false = record { is = k BarredList }
      go true false d = record { is = k KnownList }
      go false c d = record { is = k BankList }

-- where no row's condition holds, what follows the lists is given
pub lists_pass : {A : Type 0} (l : Lists) (a : A) (f : Refusal → A) (rs : List Row) → first_given (list_refusals l ++ rs) ≡ 0
    → (by (list_refused l) a f ≡ a) × (first_given rs ≡ 0)
unfolding list_refused
lists_pass l a f rs = go (is_bank_list l.banks) (is_known_list l.known) (is_barred_list l.barred)
  where
    go : (b c d : Bool) → first_given ((2, not b) ∷ (3, not c) ∷ (15, not d) ∷ rs) ≡ 0
        → (by (cond b (cond c (cond d (Ok tt) (Err BarredList)) (Err KnownList)) (Err BankList)) a f ≡ a) × (first_given rs ≡ 0)
    go true true true e = (refl, e)
    go true true false e = absurd (omega arith)
    go true false d e = absurd (omega arith)
    go false c d e = absurd (omega arith)

-- 2, 3, 15
pub lists : (l : Lists) → outcome_number (list_refused l) ≡ first_given (list_refusals l)
unfolding list_refused
lists l =
    (asked (is_bank_list l.banks) (Err BankList)
    (asked (is_known_list l.known) (Err KnownList) (asked (is_barred_list l.barred) (Err BarredList) done))
    ).is
