-- The slip: five lines from a closing, or a refusal's number (01, Examples, the slip program; 02, #101).
-- Assumes nothing.
use Rattle.std.specs.Prelude.{ℕ, zero, suc, ◌+◌, ◌/◌, cond, List, [], ◌∷◌, ◌++◌, ltb}
use Rattle.base.specs.Bytes.{ascii}
use Rattle.digits.specs.Digits.{figures}
use Rattle.lent.specs.Lent.{refusal_number}
use Rattle.lent.specs.declared.Refusal.{Refusal}
use Rattle.frame.specs.declared.Totals.{Totals}
use Rattle.frame.specs.declared.Closing.{Closing}
use Rattle.kinds.specs.Kinds.{is_beszed}

-- each line is ended by 0Ah
abbrev pub line_end : List ℕ
line_end = 10 ∷ []

-- how many digits a number has, 1 for 0, in up to k places more than one
abbrev pub places_in : ℕ → ℕ → ℕ
places_in zero n = 1
places_in (suc k) n = cond (ltb n 10) 1 (places_in k (n / 10) + 1)

-- a u64 has at most twenty
unfoldable pub places : ℕ → ℕ
places = places_in 19

-- message codes have two digits; a byte over 99 is no code, and has three
abbrev pub code_width : ℕ → ℕ
code_width c = cond (ltb c 100) 2 3

-- a word, a number of w digits, the end
abbrev pub line : List ℕ → ℕ → ℕ → List ℕ
line word w n = word ++ figures w n ++ line_end

-- a word, how many items, a space, their sum, the end; no leading zeros
abbrev pub totals_line : List ℕ → Totals → List ℕ
totals_line word t = word ++ figures (places t.count) t.count ++ line (ascii " ") (places t.sum) t.sum

-- the kind that the head told, the end: 12 bytes for either
abbrev pub kind_line : ℕ → List ℕ
kind_line kind = cond (is_beszed kind) (ascii "KIND BESZED" ++ line_end) (ascii "KIND ATUTAL" ++ line_end)

-- the lines of the kind and of the message code
abbrev pub front_lines : ℕ → ℕ → List ℕ
front_lines kind code = kind_line kind ++ line (ascii "MESSAGE ") (code_width code) code

-- what a closing says
unfoldable pub slip_of : Closing → List ℕ
slip_of k =
    front_lines k.kind k.code
    ++ totals_line (ascii "ACCEPTED ") k.accepted
    ++ totals_line (ascii "REFUSED ") k.refused
    ++ line (ascii "ZERO ") (places k.zeros) k.zeros

-- what a refusal says
abbrev pub refusal_line : Refusal → List ℕ
refusal_line r = line (ascii "REFUSAL ") (places (refusal_number r)) (refusal_number r)
