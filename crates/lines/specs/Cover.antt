-- What is found of a FEDJEL, in words: its code, how many items it has, and a line an item (02 #103).
-- Assumes nothing.
use Rattle.std.specs.Prelude.{ℕ, cond, ◌&&◌, List, [], ◌∷◌, ◌++◌, eqb}
use Rattle.base.specs.Bytes.{ascii}
use Rattle.digits.specs.Digits.{figures}
use Rattle.lines.specs.Slip.{line_end, places}
use Rattle.lines.specs.Facts.{fact, item_line}

-- the message code of two digits, as on the slip, and how many items there are
unfoldable pub verdict_lines : ℕ → ℕ → List ℕ
verdict_lines code items = fact (ascii "MESSAGE ") 2 code ++ fact (ascii "ITEMS ") 1 items

-- what a standing answer says: its place, its code, 00, and the mark with the answer as it stands
unfoldable pub standing_line : ℕ → ℕ → List ℕ
standing_line place answer = ascii "ITEM " ++ figures (places place) place ++ (ascii " 00 STANDS " ++ (answer ∷ []) ++ line_end)

-- what an item says: it is a standing answer where the message code and its own are 0; any other says its place and its code alone
unfoldable pub answer_line : ℕ → ℕ → ℕ → ℕ → List ℕ
answer_line message place code answer = cond (eqb message 0 && eqb code 0) (standing_line place answer) (item_line place code)
