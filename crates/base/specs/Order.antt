-- One list has the elements of another in some order.
-- Assumes nothing.
use mathlib.Core.List.{List, Permᴰ}

-- by steps: an element stays in front, or the first two change places
abbrev pub Reordered : {A : Type 0} → List A → List A → Type 0
Reordered xs ys = Permᴰ xs ys
