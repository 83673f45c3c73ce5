-- The bank list and the barred list: numbers of at most eight and of at most three digits in strictly ascending order (01, The job; 02 #105),
-- and the search by halves.
-- Assumes nothing.
use Rattle.std.specs.Prelude.{ℕ, zero, suc, ◌-◌, ◌/◌, Bool, true, cond, ◌&&◌, List, [], ◌∷◌, length, get_or, take, drop, leb, ltb, eqb}
use Rattle.base.specs.Bytes.{every}
use Rattle.base.specs.Groups.{some}

-- x is an element
abbrev pub member : ℕ → List ℕ → Bool
member x = some (λ y. eqb y x)

-- each element is above the one before it, and the first above p
abbrev pub above : ℕ → List ℕ → Bool
above p [] = true
above p (x ∷ xs) = ltb p x && above x xs

-- each element is above the one before it
abbrev pub ascends : List ℕ → Bool
ascends [] = true
ascends (x ∷ xs) = above x xs

-- a list that ascends and holds no number over top
abbrev pub ascends_to : ℕ → List ℕ → Bool
ascends_to top l = ascends l && every (λ x. leb x top) l

-- the list is a bank list (01, refusal 2)
abbrev pub is_bank_list : List ℕ → Bool
is_bank_list = ascends_to 99999999

-- the list is a barred list (02 #105, refusal 15)
abbrev pub is_barred_list : List ℕ → Bool
is_barred_list = ascends_to 999

-- the half that can hold x: the first elements if the one in the middle is above x, else those from it on; one element is both halves
abbrev pub half : ℕ → List ℕ → List ℕ
half x l =
    let m = length l / 2 in
    cond (ltb x (get_or l m 0)) (take (length l - m) l) (drop m l)

-- the search by halves: of up to eight numbers whether x is one of them; of more, the same in the half that can hold x
abbrev pub halved : ℕ → ℕ → List ℕ → Bool
halved zero x l = member x l
halved (suc n) x l = cond (leb (length l) 8) (member x l) (halved n x (half x l))

-- what halving finds in any list: so many turns leave eight elements at most; in a list that ascends it is membership
abbrev pub found_in : List ℕ → ℕ → Bool
found_in l x = halved (length l) x l
