-- What each code is given for, in words (002 annex 4, as docs/CODES.md reads it).
-- Assumes nothing.
use Rattle.std.specs.Prelude.{ℕ, cond, List, [], ◌∷◌, eqb}
use Prim.Native.String.{String}
use Rattle.base.specs.Bytes.{ascii}

-- a code, and what it is given for
pub record Meaning : Type 0 where
  pub code : ℕ
  pub words : List ℕ

abbrev pub means : ℕ → String → Meaning
means c s = record { code = c; words = ascii s }

-- the message codes and the item codes, in order
unfoldable pub meanings : List Meaning
meanings =
    means 0 "no fault"
    ∷ means 1 "head, bank"
    ∷ means 2 "head, number"
    ∷ means 7 "head, debit date"
    ∷ means 9 "head, message type"
    ∷ means 16 "item, amount is zero"
    ∷ means 18 "foot, item count"
    ∷ means 19 "foot, sum"
    ∷ means 26 "break, the records can't be cut"
    ∷ means 29 "head, identifier already known"
    ∷ means 32 "item, number out of order"
    ∷ means 33 "item, due date"
    ∷ means 34 "item, amount is not digits"
    ∷ means 36 "a letter that text may not hold"
    ∷ means 37 "item, bank"
    ∷ means 39 "item, number is not digits"
    ∷ means 41 "head, type"
    ∷ means 42 "head, duplicate code"
    ∷ means 43 "head, initiator or name"
    ∷ means 44 "head, date"
    ∷ means 45 "head, account"
    ∷ means 46 "item, type"
    ∷ means 48 "head, purpose"
    ∷ means 61 "item, account"
    ∷ means 62 "item, account owner"
    ∷ means 63 "item, customer id"
    ∷ []

-- the words for a code in a list, none where it has none
abbrev pub meaning_in : List Meaning → ℕ → List ℕ
meaning_in [] c = []
meaning_in (m ∷ ms) c = cond (eqb c m.code) m.words (meaning_in ms c)

-- what a code is given for
abbrev pub meaning : ℕ → List ℕ
meaning c = meaning_in meanings c
