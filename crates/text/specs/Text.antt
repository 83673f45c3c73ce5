-- Which bytes are text, and fields that say nothing.
-- Assumes nothing.
use Rattle.std.specs.Prelude.{ℕ, ◌+◌, Bool, false, cond, ◌&&◌, ◌||◌, List, [], ◌∷◌, leb, eqb, length}
use Rattle.base.specs.Bytes.{every, over}

-- b is one of the list
abbrev pub one_of : List ℕ → ℕ → Bool
one_of [] b = false
one_of (x ∷ xs) b = eqb b x || one_of xs b

-- the eighteen Hungarian letters of code page 852 (01, fault 2):
-- ü é Ő ő É ö Ö Ü á í ó ú Á Í Ó Ú Ű ű
abbrev pub hungarian : List ℕ
hungarian =
    0x81 ∷ 0x82 ∷ 0x8a ∷ 0x8b ∷ 0x90 ∷ 0x94 ∷ 0x99 ∷ 0x9a ∷ 0xa0
    ∷ 0xa1 ∷ 0xa2 ∷ 0xa3 ∷ 0xb5 ∷ 0xd6 ∷ 0xe0 ∷ 0xe9 ∷ 0xeb ∷ 0xfb ∷ []

-- 20h to 7Eh
abbrev pub plain : ℕ → Bool
plain b = leb 0x20 b && leb b 0x7e

-- a byte that may stand in text
abbrev pub letter : ℕ → Bool
letter b = plain b || one_of hungarian b

abbrev pub space : ℕ → Bool
space b = eqb b 0x20

abbrev pub space_or_zero : ℕ → Bool
space_or_zero b = eqb b 0x20 || eqb b 0x30

-- each byte is 20h to 7Eh
abbrev pub is_plain : List ℕ → Bool
is_plain = every plain

-- each byte may stand in text
abbrev pub is_text : List ℕ → Bool
is_text = every letter

-- each byte is a space
abbrev pub is_blank : List ℕ → Bool
is_blank = every space

-- each byte is a space or a zero
abbrev pub is_blank_or_zero : List ℕ → Bool
is_blank_or_zero = every space_or_zero

-- the list with s over its front, where there is room; else the list as it was
unfoldable pub with_bytes : List ℕ → List ℕ → List ℕ
with_bytes xs s = cond (leb (length s) (length xs)) (over xs 0 s) xs

-- the list with s over it from a place on, where there is room; else the list as it was
unfoldable pub with_bytes_at : List ℕ → ℕ → List ℕ → List ℕ
with_bytes_at xs at s = cond (leb (at + length s) (length xs)) (over xs at s) xs

-- the place after s, where there is room; else the place itself
unfoldable pub after_bytes : List ℕ → ℕ → List ℕ → ℕ
after_bytes xs at s = cond (leb (at + length s) (length xs)) (at + length s) at
