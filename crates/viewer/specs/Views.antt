-- A view of a held message (01, Calls and their answers: the viewer): where it begins, what it meets, and where it goes on.
-- Assumes nothing.
use Rattle.std.specs.Prelude.{ℕ, zero, suc, List}
use Rattle.std.specs.Borrow.{Bor}
use Rattle.frame.specs.Places.{record_at}
use Rattle.frame.specs.declared.Record.{Record}
use Rattle.frame.specs.declared.Record.TheVariants.{Head, Item, Foot, Break, End}
use Rattle.viewer.specs.declared.View.{View}

-- the position after a record that stands at a position; a break and the end have none, and the walk stays
abbrev pub next_of : Record → ℕ → ℕ
next_of (Head start next) at = next
next_of (Item start next) at = next
next_of (Foot start next) at = next
next_of Break at = at
next_of End at = at

-- the position after what stands at a position
unfoldable pub next_at : List ℕ → ℕ → ℕ
next_at m at = next_of (record_at m at) at

-- the position k records after a position
unfoldable pub gone_on : List ℕ → ℕ → ℕ → ℕ
gone_on m at zero = at
gone_on m at (suc k) = gone_on m (next_at m at) k

-- a view of a message at a position
abbrev pub view_at : Bor (List ℕ) → ℕ → View
view_at message at = record { message = message; at = at }

-- a view of a message at its head
abbrev pub begun : Bor (List ℕ) → View
begun message = view_at message 0

-- what stands at a view's position
abbrev pub met : View → Record
met v = record_at v.message.now v.at

-- the view of the same message at the next position
abbrev pub moved : View → View
moved v = record { message = v.message; at = next_at v.message.now v.at }

-- the view gone on k times
unfoldable pub walked : ℕ → View → View
walked zero v = v
walked (suc k) v = walked k (moved v)
