-- The records that a walk over a message meets (01, Records), as the cut has them.
-- Assumes nothing.
use Rattle.std.specs.Prelude.{ℕ, zero, suc, ◌+◌, ◌-◌, Bool, cond, List, [], ◌∷◌, ◌++◌, length, take, drop}
use Rattle.frame.specs.Records.{lengths, head_end, item_end, foot_end, head_stands, items_of, is_broken}
use Rattle.frame.specs.Places.{place}
use Rattle.frame.specs.declared.Record.{Record}
use Rattle.frame.specs.declared.Record.TheVariants.{Head, Item, Foot, Break, End}

-- an Item for each complete item, of which the first is the k-th
unfoldable pub item_records : ℕ → List (List ℕ) → List Record
item_records k [] = []
item_records k (r ∷ rs) = Item (place k) (place k + item_end) ∷ item_records (k + 1) rs

-- after n items: the foot and the end, or the first break
unfoldable pub closing_records : Bool → ℕ → List Record
closing_records broken n = cond broken (Break ∷ []) (Foot (place n) (place n + foot_end) ∷ End ∷ [])

-- the head, the complete items, then the foot and the end; a break ends the walk
unfoldable pub records_of : List ℕ → List Record
records_of m =
    cond (head_stands lengths m)
    (Head 0 head_end ∷ (item_records 0 (items_of lengths m) ++ closing_records (is_broken lengths m) (length (items_of lengths m))))
    (Break ∷ [])

-- the k-th of them, from 0, and the last one for every k beyond; there is always one
unfoldable pub kth : List Record → ℕ → Record
kth [] k = Break
kth (r ∷ []) k = r
kth (r ∷ s ∷ rs) zero = r
kth (r ∷ s ∷ rs) (suc k) = kth (s ∷ rs) k

-- the bytes of a record, without its ending
abbrev pub bytes_of : List ℕ → Record → List ℕ
bytes_of m (Head start next) = take (next - start - 2) (drop start m)
bytes_of m (Item start next) = take (next - start - 2) (drop start m)
bytes_of m (Foot start next) = take (next - start - 2) (drop start m)
bytes_of m Break = []
bytes_of m End = []
