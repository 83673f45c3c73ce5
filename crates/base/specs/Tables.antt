-- Cases with their conditions, in an order: the first whose condition holds.
-- Assumes nothing.
use Rattle.std.specs.Prelude.{ℕ, Bool, cond, List, [], ◌∷◌}

-- the case of the first row whose condition holds, another if none does
abbrev pub first_of : {A : Type 0} → A → List (A × Bool) → A
first_of z [] = z
first_of z (r ∷ rs) = cond r.1 r.0 (first_of z rs)

-- a number, and the condition for it
abbrev pub Row : Type 0
Row = ℕ × Bool

-- the number of the first row whose condition holds, 0 if none does (01, Calls and their answers: the table of refusals and its order)
abbrev pub first_given : List Row → ℕ
first_given rs = first_of 0 rs
