-- The head and the foot in parts, and what the writers of records ask.
-- Assumes nothing.
use Rattle.std.specs.Prelude.{ℕ, ◌^◌, ◌≤◌, ◌<◌, List, [], ◌∷◌, ◌++◌, length, get_or}
use Rattle.base.specs.Bytes.{ascii}
use Rattle.digits.specs.Digits.{figures}
use Rattle.frame.specs.Records.{lengths, ending, items_of}
use Rattle.frame.specs.declared.Totals.{Totals}
use Rattle.judge.specs.Session.{most}
use Rattle.frame.specs.declared.Status.{Status}

-- positions 1-34 of the head, and the rest with its ending
unfoldable pub address : List ℕ → ℕ → List ℕ → List ℕ
address kind duplicate id = ascii "01" ++ kind ++ (duplicate ∷ []) ++ id

unfoldable pub own : Status → List ℕ
own s = figures 8 s.date ++ figures 4 s.number ++ figures 6 s.time ++ figures 2 s.code ++ ending

-- the four totals of the foot
unfoldable pub totals : Totals → Totals → List ℕ
totals a r = figures 6 a.count ++ figures 16 a.sum ++ figures 6 r.count ++ figures 16 r.sum

-- each number fits its field
pub record Countable (t : Totals) : Type 0 where
  pub count : t.count < 10 ^ 6
  pub sum : t.sum < 10 ^ 16

pub record Writable (s : Status) : Type 0 where
  pub date : s.date < 10 ^ 8
  pub number : s.number < 10 ^ 4
  pub time : s.time < 10 ^ 6
  pub code : s.code < 10 ^ 2
  pub accepted : Countable s.accepted
  pub refused : Countable s.refused

-- the first n items of a message have codes of two digits, and places of six
pub record Referable (m cs : List ℕ) (n : ℕ) : Type 0 where
  pub most : n ≤ most
  pub items : n ≤ length (items_of lengths m)
  pub codes : n ≤ length cs
  pub small : (i : ℕ) → i < n → get_or cs i 0 < 10 ^ 2
