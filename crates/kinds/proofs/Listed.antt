-- For lists in order, what the rules ask of a bank is that it is an element of the bank list, or of the barred list.
-- Assumes nothing.
use mathlib.Core.Path.{◌≡◌, ap, fun_ext, ◌∙◌}
use mathlib.Core.Bool.{Bool, true}
use mathlib.Core.List.{List}
use Prim.Native.Nat.{ℕ}
use lib.Dec.{leb}
use Rattle.base.specs.Bytes.{every}
use Rattle.base.proofs.Every.{both}
use Rattle.lists.specs.Banks.{member, ascends, ascends_to, found_in, is_bank_list, is_barred_list}
use Rattle.lists.proofs.Member.{exact}
use Rattle.lent.specs.Lent.{Lent}
use Rattle.kinds.specs.Codes.{rules_by, rules, member_rules}

-- the search by halves in a list in order is membership
found_is : (top : ℕ) (xs : List ℕ) → ascends_to top xs ≡ true → found_in xs ≡ (λ x. member x xs)
found_is top xs b = fun_ext (λ x. exact xs x (both (ascends xs) (every (λ y. leb y top) xs) b).0)

pub by_membership : (l : Lent) → is_bank_list l.lists.banks ≡ true → is_barred_list l.lists.barred ≡ true → rules l ≡ member_rules l
by_membership l b d =
    ap (λ (is_listed : ℕ → Bool). rules_by l.day is_listed l.lists.known (found_in l.lists.barred)) (found_is 99999999 l.lists.banks b)
    ∙ ap (λ (is_barred : ℕ → Bool). rules_by l.day (λ x. member x l.lists.banks) l.lists.known is_barred) (found_is 999 l.lists.barred d)
