-- Where the records of a message stand, for a walk over it (01, Records).
-- Assumes nothing.
use Rattle.std.specs.Prelude.{ℕ, ◌+◌, ◌-◌, ◌*◌, ◌%◌, Bool, cond, ◌&&◌, List, length, drop, leb, ltb, eqb}
use Rattle.frame.specs.Records.{lengths, head_end, item_end, foot_end, head_stands, item_stands, foot_stands}
use Rattle.frame.specs.declared.Record.{Record}
use Rattle.frame.specs.declared.Record.TheVariants.{Head, Item, Foot, Break, End}

-- where the record after the head and k items begins
abbrev pub place : ℕ → ℕ
place k = head_end + k * item_end

-- the foot stands at a position, with some item before it
abbrev pub foot_at : List ℕ → ℕ → Bool
foot_at m at = ltb head_end at && foot_stands lengths (drop at m)

-- after the head: an item, or the foot if some item stands before it
unfoldable pub later_at : List ℕ → ℕ → Record
later_at m at = cond (item_stands lengths (drop at m)) (Item at (at + item_end)) (cond (foot_at m at) (Foot at (at + foot_end)) Break)

-- how far a position stands beyond the last place at or before it
abbrev pub beyond : ℕ → ℕ
beyond at = (at - head_end) % item_end

-- the head stands at 0, each later record at a place, and the end after the foot at one
unfoldable pub record_at : List ℕ → ℕ → Record
record_at m at =
    cond (eqb at 0)
    (cond (head_stands lengths m) (Head 0 head_end) Break)
    (cond (leb head_end at && leb at (length m))
    (cond (eqb (beyond at) 0)
    (later_at m at)
    (cond (eqb (beyond at) foot_end && foot_at m (at - foot_end)) End Break))
    Break)
