-- Examples of numbers, of slips, of a STATUS and of a FEDJEL in words, the empty message's five lines among them, each group computed at once.
-- Assumes nothing.
use Rattle.std.specs.Prelude.{ℕ, ◌≡◌, refl, List, [], ◌∷◌, ◌++◌, map}
use Rattle.base.specs.Bytes.{ascii}
use Rattle.digits.specs.Digits.{figures}
use Rattle.frame.specs.Records.{no_id}
use Rattle.frame.specs.Verdict.{none, blank}
use Rattle.kinds.specs.Kinds.{ATUTAL, BESZED}
use Rattle.lent.specs.declared.Refusal.TheVariants.{NotADay, Overflow}
use Rattle.lines.specs.Slip.{line_end, places, slip_of, refusal_line}
use Rattle.lines.specs.Facts.{order_line, address_lines, own_lines, count_lines, status_text, item_line}
use Rattle.lines.specs.Cover.{verdict_lines, standing_line, answer_line}

-- how many digits
pub digits : map places (0 ∷ 9 ∷ 10 ∷ 99 ∷ 100 ∷ 18446744073709551615 ∷ []) ≡ 1 ∷ 1 ∷ 2 ∷ 2 ∷ 3 ∷ 20 ∷ []
unfolding places
digits = refl

-- what a closing with code 26 says after its kind: 01's four lines
abbrev broken_lines : List ℕ
broken_lines = ascii "MESSAGE 26" ++ line_end ++ ascii "ACCEPTED 0 0" ++ line_end ++ ascii "REFUSED 0 0" ++ line_end ++ ascii "ZERO 0" ++ line_end

-- the closings of an empty message, and of a BESZED's head alone (02, #101)
pub broken : map (λ kind. slip_of (blank kind 26 no_id)) (ATUTAL ∷ BESZED ∷ [])
    ≡ (ascii "KIND ATUTAL" ++ line_end ++ broken_lines) ∷ (ascii "KIND BESZED" ++ line_end ++ broken_lines) ∷ []
unfolding slip_of figures places
broken = refl

-- refusals
pub refusals : map refusal_line (NotADay ∷ Overflow ∷ []) ≡ (ascii "REFUSAL 1" ++ line_end) ∷ (ascii "REFUSAL 6" ++ line_end) ∷ []
unfolding figures places
refusals = refl

-- 01's reply of 104 bytes
pub status :
    status_text
    (record {
      duplicate = 0x30;
      id = ascii "A12345676T001202003010001";
      date = 20200310;
      number = 7;
      time = 83000;
      code = 42;
      accepted = none;
      refused = none;
      references = 0;
    })
    ≡ ascii "ORDER A12345676T001 20200301 0001"
    ++ line_end
    ++ ascii "DUPLICATE 0"
    ++ line_end
    ++ ascii "DATE 20200310"
    ++ line_end
    ++ ascii "NUMBER 7"
    ++ line_end
    ++ ascii "TIME 083000"
    ++ line_end
    ++ ascii "CODE 42"
    ++ line_end
    ++ ascii "ACCEPTED 0 0"
    ++ line_end
    ++ ascii "REFUSED 0 0"
    ++ line_end
    ++ ascii "REFERENCES 0"
    ++ line_end
unfolding status_text address_lines order_line own_lines count_lines figures places
status = refl

-- references
pub references : map (item_line 2) (0 ∷ 61 ∷ []) ≡ (ascii "ITEM 2 00" ++ line_end) ∷ (ascii "ITEM 2 61" ++ line_end) ∷ []
unfolding item_line figures places
references = refl

-- a FEDJEL of two items with code 00
pub verdict : verdict_lines 0 2 ≡ ascii "MESSAGE 00" ++ line_end ++ ascii "ITEMS 2" ++ line_end
unfolding verdict_lines figures places
verdict = refl

-- items of one: a standing answer, and a repeated one; and of a FEDJEL with code 18
pub answers :
    answer_line 0 1 0 0x31 ∷ answer_line 0 2 75 0x31 ∷ answer_line 18 1 0 0x31 ∷ []
    ≡ (ascii "ITEM 1 00 STANDS 1" ++ line_end) ∷ (ascii "ITEM 2 75" ++ line_end) ∷ (ascii "ITEM 1 00" ++ line_end) ∷ []
unfolding answer_line standing_line item_line figures places
answers = refl
