-- The foot of a FEDJEL, and the totals that it says (002 12.2.1 and its note; 02 #103).
-- Assumes nothing.
use Rattle.std.specs.Prelude.{ℕ, ◌+◌, Bool, cond, not, ◌&&◌, List, [], ◌∷◌, length, eqb}
use Rattle.base.specs.Bytes.{ascii, field, same}
use Rattle.base.specs.Tables.{Row}
use Rattle.digits.specs.Digits.{is_digits, number_of}
use Rattle.frame.specs.declared.Totals.{Totals}
use Rattle.cover.specs.Head.{is_number}

-- an item is of the type 0 and a digit
unfoldable pub is_type : ℕ → List ℕ → Bool
is_type t it = same (field 1 2 it) (48 ∷ t ∷ [])

-- an item's sum
unfoldable pub amount_of : List ℕ → ℕ
amount_of it = number_of (field 52 67 it)

-- a number of each item, added up
abbrev pub total : (List ℕ → ℕ) → List (List ℕ) → ℕ
total g [] = 0
total g (it ∷ its) = g it + total g its

-- how many items are of a type, and their sum, however large
abbrev pub count_of : ℕ → List (List ℕ) → ℕ
count_of t = total (λ it. cond (is_type t it) 1 0)

abbrev pub sum_of : ℕ → List (List ℕ) → ℕ
sum_of t = total (λ it. cond (is_type t it) (amount_of it) 0)

abbrev pub totals_of : ℕ → List (List ℕ) → Totals
totals_of t its = record { count = count_of t its; sum = sum_of t its }

abbrev pub totals_of_all : List (List ℕ) → Totals
totals_of_all its = record { count = length its; sum = total amount_of its }

-- two fields are digits, and their numbers together are n
unfoldable pub are_together : ℕ → List ℕ → List ℕ → Bool
are_together n s t = is_digits s && (is_digits t && eqb (number_of s + number_of t) n)

-- where no item is faulty: count (18) and sum (19) of the 02 items, then of the 03 items
unfoldable pub typed_rows : Totals → Totals → List ℕ → List Row
typed_rows a b f =
    (18, not (is_number a.count (field 3 6 f)))
    ∷ (19, not (is_number a.sum (field 7 22 f)))
    ∷ (18, not (is_number b.count (field 23 26 f)))
    ∷ (19, not (is_number b.sum (field 27 42 f)))
    ∷ []

-- where some item is faulty: both counts together, then both sums
unfoldable pub joint_rows : ℕ → ℕ → List ℕ → List Row
joint_rows count sum f =
    (18, not (are_together count (field 3 6 f) (field 23 26 f)))
    ∷ (19, not (are_together sum (field 7 22 f) (field 27 42 f)))
    ∷ []

-- the foot's faults in their order, by the totals of the 02 items, of the 03 items and of all
unfoldable pub foot_rows : Bool → Totals → Totals → Totals → List ℕ → List Row
foot_rows faulty a b all f =
    (47, not (same (field 1 2 f) (ascii "04")))
    ∷ cond faulty (joint_rows all.count all.sum f) (typed_rows a b f)
