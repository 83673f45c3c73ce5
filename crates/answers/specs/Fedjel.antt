-- How a FEDJEL is laid out (002 12.1 to 12.4; 02 #103): a head of 32 bytes, items of 70, a foot of 42, each with its ending. Records are told by
-- their place alone.
-- Assumes nothing.
use Rattle.std.specs.Prelude.{ℕ, ◌+◌, ◌-◌, ◌*◌, ◌/◌, ◌%◌, Bool, ◌&&◌, List, length, take, drop, leb, eqb}
use Rattle.base.specs.Groups.{groups, all}
use Rattle.frame.specs.Records.{ended}

-- how many items a message of this length has: what is left of head and foot, by 72
abbrev pub item_count : List ℕ → ℕ
item_count m = (length m - 78) / 72

abbrev pub head_of : List ℕ → List ℕ
head_of m = take 32 m

-- the items, without their endings
abbrev pub items_of : List ℕ → List (List ℕ)
items_of m = groups 72 70 (item_count m) (drop 34 m)

-- their bytes, end to end, each with its ending
abbrev pub item_bytes : List ℕ → List ℕ
item_bytes m = take (item_count m * 72) (drop 34 m)

-- the items of such bytes, without their endings
abbrev pub items_in : List ℕ → List (List ℕ)
items_in b = groups 72 70 (length b / 72) b

-- the foot and its ending
abbrev pub foot_ended : List ℕ → List ℕ
foot_ended m = drop (34 + item_count m * 72) m

abbrev pub foot_of : List ℕ → List ℕ
foot_of m = take 42 (foot_ended m)

-- the bytes pass as a FEDJEL: 34 + 72n + 44 of them, n at least 1, and each record with its ending (02 #103, refusal 12)
unfoldable pub is_fedjel : List ℕ → Bool
is_fedjel m =
    leb 150 (length m) && (eqb ((length m - 78) % 72) 0
    && (ended 32 m && (all (ended 70) (groups 72 72 (item_count m) (drop 34 m)) && ended 42 (foot_ended m))))
