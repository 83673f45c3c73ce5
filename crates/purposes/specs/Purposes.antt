-- The purposes: the 46 codes of annex 2 of the standard, in its order.
-- Assumes nothing.
use Rattle.std.specs.Prelude.{ℕ, Bool, List, [], ◌∷◌}
use Rattle.base.specs.Bytes.{ascii, same}
use Rattle.base.specs.Groups.{some}

unfoldable pub purposes : List (List ℕ)
purposes =
    ascii "BEB" ∷ ascii "BEE" ∷ ascii "BET" ∷ ascii "BKB" ∷ ascii "BKK" ∷ ascii "BLV" ∷ ascii "BNY" ∷ ascii "BEO"
    ∷ ascii "BGC" ∷ ascii "BGK" ∷ ascii "BGX" ∷ ascii "BGY"
    ∷ ascii "MUN" ∷ ascii "CSP" ∷ ascii "ETK" ∷ ascii "GYD" ∷ ascii "GYS" ∷ ascii "ILK" ∷ ascii "TID" ∷ ascii "TPZ"
    ∷ ascii "MHL" ∷ ascii "MGY" ∷ ascii "MBD" ∷ ascii "ELL"
    ∷ ascii "EGS" ∷ ascii "NYP" ∷ ascii "UGY" ∷ ascii "MNJ" ∷ ascii "NYG"
    ∷ ascii "NOE" ∷ ascii "NOK" ∷ ascii "NME" ∷ ascii "NMK" ∷ ascii "NGY"
    ∷ ascii "CST" ∷ ascii "DIJ" ∷ ascii "FUJ" ∷ ascii "FUT" ∷ ascii "GAZ" ∷ ascii "KEM" ∷ ascii "KTS" ∷ ascii "LBR"
    ∷ ascii "MVZ" ∷ ascii "SZE" ∷ ascii "THO" ∷ ascii "VIL" ∷ []

-- s is one of the codes
abbrev pub one_of : List (List ℕ) → List ℕ → Bool
one_of ps s = some (λ p. same p s) ps

-- s is a purpose
abbrev pub is_purpose : List ℕ → Bool
is_purpose s = one_of purposes s
