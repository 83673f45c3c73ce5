-- The known list: message identifiers of 25 bytes, end to end (01, The job).
-- Assumes nothing.
use Rattle.std.specs.Prelude.{ℕ, ◌/◌, ◌%◌, Bool, List, length, eqb}
use Rattle.base.specs.Bytes.{same}
use Rattle.base.specs.Groups.{groups, some}

-- the bytes are whole identifiers (01, refusal 3)
abbrev pub is_known_list : List ℕ → Bool
is_known_list l = eqb (length l % 25) 0

-- id is one of the first n identifiers
abbrev pub among : ℕ → List ℕ → List ℕ → Bool
among n l id = some (λ e. same e id) (groups 25 25 n l)

-- id is one of the whole identifiers of the list; bytes after the last whole one don't count
abbrev pub is_known : List ℕ → List ℕ → Bool
is_known l id = among (length l / 25) l id
