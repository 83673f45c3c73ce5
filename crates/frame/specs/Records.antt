-- Cutting a message into records (01, Records): the head, the complete items before any break, the foot, and whether there is a break.
-- Assumes nothing.
use Rattle.std.specs.Prelude.{ℕ, zero, suc, ◌+◌, Bool, cond, not, ◌&&◌, List, [], ◌∷◌, length, get_or, take, drop, replicate, leb, ltb, eqb}
use Rattle.base.specs.Bytes.{ascii, field, same}

-- the lengths of the three kinds of record, without the ending
pub record Sizes : Type 0 where
  pub head : ℕ
  pub item : ℕ
  pub foot : ℕ

-- the lengths of head, item and foot without their ending (002, 1.1, 1.3, 1.2; the same in 2.1, 2.3, 2.2)
abbrev pub lengths : Sizes
lengths = record { head = 174; item = 249; foot = 24 }

-- their sizes with it
abbrev pub head_end : ℕ
head_end = lengths.head + 2

abbrev pub item_end : ℕ
item_end = lengths.item + 2

abbrev pub foot_end : ℕ
foot_end = lengths.foot + 2

-- what every record ends with: 0Dh 0Ah
abbrev pub ending : List ℕ
ending = 0x0d ∷ 0x0a ∷ []

-- the first n bytes are a record, and its ending stands after them
unfoldable pub ended : ℕ → List ℕ → Bool
ended n x = leb (n + 2) (length x) && (eqb (get_or x n 0) 0x0d && eqb (get_or x (n + 1) 0) 0x0a)

-- a record that begins 03 is the foot; any other after the head is an item
unfoldable pub is_foot : List ℕ → Bool
is_foot x = same (take 2 x) (ascii "03")

-- 25 spaces
abbrev pub no_id : List ℕ
no_id = replicate 25 0x20

-- the identifier, positions 10-34, of what begins with a head; spaces where it is shorter
unfoldable pub id_of : List ℕ → List ℕ
id_of x = cond (leb 34 (length x)) (field 10 34 x) no_id

module _ (Z : Sizes) where
  -- a complete item stands at the front of what is left
  abbrev pub item_stands : List ℕ → Bool
  item_stands x = not (is_foot x) && ended Z.item x

  -- what is left is a foot and nothing more
  abbrev pub foot_stands : List ℕ → Bool
  foot_stands x = is_foot x && (ended Z.foot x && eqb (length x) (Z.foot + 2))

  -- the complete items at the front, n at most
  unfoldable pub items_in : ℕ → List ℕ → List (List ℕ)
  items_in zero x = []
  items_in (suc n) x = cond (item_stands x) (take Z.item x ∷ items_in n (drop (Z.item + 2) x)) []

  -- what is left after them
  unfoldable pub rest_after : ℕ → List ℕ → List ℕ
  rest_after zero x = x
  rest_after (suc n) x = cond (item_stands x) (rest_after n (drop (Z.item + 2) x)) x

  -- the head with its right ending stands at the front of the message
  abbrev pub head_stands : List ℕ → Bool
  head_stands m = ended Z.head m

  abbrev pub head_of : List ℕ → List ℕ
  head_of m = take Z.head m

  -- no message has more items than bytes
  abbrev pub items_of : List ℕ → List (List ℕ)
  items_of m = cond (head_stands m) (items_in (length m) (drop (Z.head + 2) m)) []

  -- what is left of the message after its items
  abbrev pub rest_of : List ℕ → List ℕ
  rest_of m = rest_after (length m) (drop (Z.head + 2) m)

  abbrev pub foot_of : List ℕ → List ℕ
  foot_of m = take Z.foot (rest_of m)

  -- a wrong or missing ending, an end inside a record, no foot, no item, or a byte after the foot
  abbrev pub is_broken : List ℕ → Bool
  is_broken m = not (head_stands m && (ltb 0 (length (items_of m)) && foot_stands (rest_of m)))
