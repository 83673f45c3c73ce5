-- What a STATUS says, a fact a line (01, Records and Calls: what reading a STATUS gives).
-- Assumes nothing.
use Rattle.std.specs.Prelude.{ℕ, cond, List, [], ◌∷◌, ◌++◌, ltb}
use Rattle.base.specs.Bytes.{ascii, field}
use Rattle.digits.specs.Digits.{figures}
use Rattle.frame.specs.declared.Status.{Status}
use Rattle.lines.specs.Slip.{line_end, places, line, totals_line}

-- how many digits a number gets: at least w, and more where it has more
abbrev pub wide : ℕ → ℕ → ℕ
wide w n = cond (ltb (places n) w) w (places n)

-- a word, a number of at least w digits, the end
abbrev pub fact : List ℕ → ℕ → ℕ → List ℕ
fact word w n = line word (wide w n) n

-- the order's positions 10-34: initiator (10-22), date (23-30) and number (31-34)
unfoldable pub order_line : List ℕ → List ℕ
order_line id = ascii "ORDER " ++ field 1 13 id ++ ascii " " ++ field 14 21 id ++ ascii " " ++ field 22 25 id ++ line_end

-- the duplicate code, as it stands
abbrev pub duplicate_line : ℕ → List ℕ
duplicate_line b = ascii "DUPLICATE " ++ (b ∷ []) ++ line_end

-- positions 9-34 of the head
unfoldable pub address_lines : Status → List ℕ
address_lines s = order_line s.id ++ duplicate_line s.duplicate

-- positions 35-54 of the head: dates have eight digits, times six, codes two
unfoldable pub own_lines : Status → List ℕ
own_lines s =
    fact (ascii "DATE ") 8 s.date
    ++ fact (ascii "NUMBER ") 1 s.number
    ++ fact (ascii "TIME ") 6 s.time
    ++ fact (ascii "CODE ") 2 s.code

-- the foot, and how many references there are
unfoldable pub count_lines : Status → List ℕ
count_lines s =
    totals_line (ascii "ACCEPTED ") s.accepted
    ++ totals_line (ascii "REFUSED ") s.refused
    ++ fact (ascii "REFERENCES ") 1 s.references

-- what a STATUS says, without its references
unfoldable pub status_text : Status → List ℕ
status_text s = address_lines s ++ own_lines s ++ count_lines s

-- what a reference says: its place and its code of two digits
unfoldable pub item_line : ℕ → ℕ → List ℕ
item_line place code = ascii "ITEM " ++ figures (places place) place ++ fact (ascii " ") 2 code
