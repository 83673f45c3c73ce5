-- Lists of bytes: text as bytes, fields by their positions, a test that every byte passes, and writing over a part.
-- Assumes nothing.
use Rattle.std.specs.Prelude.{ℕ, ◌+◌, ◌-◌, Bool, List, [], ◌∷◌, ◌++◌, length, take, drop, bytes_eq}
use Rattle.std.specs.List.{list_all}
use Prim.Native.Char.{code}
use Prim.Native.String.{String}

-- the bytes of a text of ASCII characters: ascii "02" is 30h 32h
abbrev pub ascii : String → List ℕ
ascii String.[] = []
ascii (String.◌∷◌ c s) = code c ∷ ascii s

-- the bytes at positions a to b of a record, counted from 1, both in
abbrev pub field : ℕ → ℕ → List ℕ → List ℕ
field a b r = take (b + 1 - a) (drop (a - 1) r)

-- every byte passes the test
abbrev pub every : (ℕ → Bool) → List ℕ → Bool
every = list_all

-- the two lists are the same
abbrev pub same : List ℕ → List ℕ → Bool
same = bytes_eq

-- a list with d over it from place a on, counted from 0
unfoldable pub over : List ℕ → ℕ → List ℕ → List ℕ
over xs a d = take a xs ++ d ++ drop (a + length d) xs
