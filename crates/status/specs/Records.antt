-- The records of a STATUS message, each with its ending (002 sections 3.1 to 3.3; 01, Records); FEDSTA has the same head and foot (002 4.1, 4.2).
-- Assumes nothing.
use Rattle.std.specs.Prelude.{ℕ, ◌+◌, Bool, List, [], ◌∷◌, ◌++◌, replicate}
use Rattle.base.specs.Bytes.{ascii, field}
use Rattle.text.specs.Text.{is_plain}
use Rattle.digits.specs.Digits.{figures}
use Rattle.frame.specs.Records.{ending}
use Rattle.frame.specs.declared.Status.{Status}

-- 3.1, the head, 54, with the six letters of its message type; 4.1 has the same places for FEDSTA
unfoldable pub head_record : List ℕ → Status → List ℕ
head_record kind s =
    ascii "01"  -- F220: 1-2
    ++ kind  -- F221: 3-8
    ++ (s.duplicate ∷ [])  -- F222: 9
    ++ s.id  -- F223, F224: 10-34, the order's own positions 10-34
    ++ figures 8 s.date  -- F225.1: 35-42
    ++ figures 4 s.number  -- F225.2: 43-46
    ++ figures 6 s.time  -- F226: 47-52
    ++ figures 2 s.code  -- F227: 53-54
    ++ ending

-- 3.3, the reference to the item at a place, 63: its code and its positions 51-74
unfoldable pub reference : ℕ → ℕ → List ℕ → List ℕ
reference place code item =
    ascii "02"  -- T220: 1-2
    ++ figures 6 place  -- T221: 3-8
    ++ figures 2 code  -- T222: 9-10
    ++ replicate 29 0x20  -- T223: 11-39, no UGIRO transaction
    ++ field 51 74 item  -- T224: 40-63
    ++ ending

-- one for each item, in order; the first stands at place k
unfoldable pub references : ℕ → List ℕ → List (List ℕ) → List ℕ
references k [] rs = []
references k (c ∷ cs) [] = []
references k (c ∷ cs) (r ∷ rs) = reference k c r ++ references (k + 1) cs rs

-- 3.2, the foot, 46; 4.2 has the same places for FEDSTA
unfoldable pub foot_record : Status → List ℕ
foot_record s =
    ascii "03"  -- Z220: 1-2
    ++ figures 6 s.accepted.count  -- Z221: 3-8
    ++ figures 16 s.accepted.sum  -- Z222: 9-24
    ++ figures 6 s.refused.count  -- Z223: 25-30
    ++ figures 16 s.refused.sum  -- Z224: 31-46
    ++ ending

-- the head, a reference for each item with its code, the foot
unfoldable pub written : Status → List ℕ → List (List ℕ) → List ℕ
written s codes items = head_record (ascii "STATUS") s ++ references 1 codes items ++ foot_record s

-- the bytes of positions 10-34 (01, refusal 7)
abbrev pub is_address : List ℕ → Bool
is_address = is_plain
