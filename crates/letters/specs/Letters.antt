-- How a field of a message is shown in UTF-8: the letters of code page 852 that are text (01, fault 2), and a mark for any other byte.
-- Assumes nothing.
use Rattle.std.specs.Prelude.{ℕ, ◌+◌, ◌/◌, ◌%◌, Bool, cond, not, ◌&&◌, List, [], ◌∷◌, ◌++◌, eqb, ltb, Option, Some, None}
use Rattle.text.specs.Text.{plain}

-- a byte of code page 852, and the Unicode number of its letter
pub record Letter : Type 0 where
  pub byte : ℕ
  pub number : ℕ

abbrev pub is : ℕ → ℕ → Letter
is b n = record { byte = b; number = n }

-- the eighteen Hungarian letters, in 01's order with annex 11's letters: ü é Ő ő É ö Ö Ü á í ó ú Á Í Ó Ú Ű ű
abbrev pub hungarian : List Letter
hungarian =
    is 0x81 0xfc
    ∷ is 0x82 0xe9
    ∷ is 0x8a 0x150
    ∷ is 0x8b 0x151
    ∷ is 0x90 0xc9
    ∷ is 0x94 0xf6
    ∷ is 0x99 0xd6
    ∷ is 0x9a 0xdc
    ∷ is 0xa0 0xe1
    ∷ is 0xa1 0xed
    ∷ is 0xa2 0xf3
    ∷ is 0xa3 0xfa
    ∷ is 0xb5 0xc1
    ∷ is 0xd6 0xcd
    ∷ is 0xe0 0xd3
    ∷ is 0xe9 0xda
    ∷ is 0xeb 0x170
    ∷ is 0xfb 0x171
    ∷ []

-- the number of a byte's letter in a table, where it has one
abbrev pub number_in : List Letter → ℕ → Option ℕ
number_in [] b = None
number_in (l ∷ ls) b = cond (eqb b l.byte) (Some l.number) (number_in ls b)

-- the Unicode number of a byte that may stand in text: 20h to 7Eh are themselves
unfoldable pub unicode : ℕ → Option ℕ
unicode b = cond (plain b) (Some b) (number_in hungarian b)

-- a number below 800h in UTF-8: one byte below 80h, two from there on
abbrev pub utf8 : ℕ → List ℕ
utf8 n = cond (ltb n 0x80) (n ∷ []) ((0xc0 + n / 64) ∷ (0x80 + n % 64) ∷ [])

-- a digit of a number in base 16: 0 to 9, A to F
abbrev pub hex : ℕ → ℕ
hex d = cond (ltb d 10) (0x30 + d) (0x37 + d)

-- a byte that is no text as a mark: \x and two digits, 1Ah as \x1A
abbrev pub mark : ℕ → List ℕ
mark b = 0x5c ∷ 0x78 ∷ hex (b / 16) ∷ hex (b % 16) ∷ []

-- a byte has a mark where it is no text; so has the backslash, so that each backslash that is shown begins a mark
abbrev pub letter : ℕ → Option ℕ
letter b = cond (eqb b 0x5c) None (unicode b)

-- a byte that is shown as itself: 20h to 7Eh without the backslash
abbrev pub own : ℕ → Bool
own b = plain b && not (eqb b 0x5c)

-- by the number of its letter, or as a mark
abbrev pub letter_or_mark : Option ℕ → ℕ → List ℕ
letter_or_mark None b = mark b
letter_or_mark (Some n) b = utf8 n

-- how a byte is shown
unfoldable pub shown_byte : ℕ → List ℕ
shown_byte b = letter_or_mark (letter b) b

-- how a field is shown
abbrev pub shown : List ℕ → List ℕ
shown [] = []
shown (b ∷ bs) = shown_byte b ++ shown bs
