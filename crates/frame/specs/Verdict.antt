-- The verdict on a message that is not cut, for any field rules (01, Faults of the whole message; Calls and their answers).
-- Assumes nothing.
use Rattle.std.specs.Prelude.{ℕ, ◌+◌, Bool, false, cond, not, ◌||◌, List, [], ◌∷◌, ◌++◌, map, length, take, drop, ltb, eqb}
use Rattle.frame.specs.declared.Found.{Found}
use Rattle.frame.specs.declared.Totals.{Totals}
use Rattle.frame.specs.declared.Told.{Told}
use Rattle.frame.specs.declared.Closing.{Closing}
use Rattle.frame.specs.Records.{lengths, no_id, id_of, head_stands, head_of, items_of, foot_of, is_broken}

-- the field rules of messages. A code is 0 where no fault is found
pub record Rules : Type 0 where
  -- what the head tells the rules of the items: the one thing that they may take from it
  pub tells : List ℕ → Told
  -- a bad letter in the head's text, and the code of its first fault
  pub head_letter : List ℕ → Bool
  pub head_code : List ℕ → ℕ
  -- an item: by what the head told and the item's place, from 1
  pub item : Told → ℕ → List ℕ → Found
  -- the foot's code, by the items' number and the sum of their amounts; and the count and the sum that it states
  pub foot_code : ℕ → ℕ → List ℕ → ℕ
  pub foot_count : List ℕ → ℕ
  pub foot_sum : List ℕ → ℕ

-- the first code that isn't 0, and 0 if there is none
abbrev pub first : List ℕ → ℕ
first [] = 0
first (c ∷ cs) = cond (eqb c 0) (first cs) c

-- one of them is true
abbrev pub any : List Bool → Bool
any [] = false
any (b ∷ bs) = b || any bs

-- what is found that passes a test
abbrev pub those : (Found → Bool) → List Found → List Found
those p [] = []
those p (f ∷ fs) = cond (p f) (f ∷ those p fs) (those p fs)

-- accepted items have code 0, all others are refused
abbrev pub is_accepted : Found → Bool
is_accepted f = eqb f.code 0

abbrev pub accepted : List Found → List Found
accepted = those is_accepted

abbrev pub refused : List Found → List Found
refused = those (λ f. not (is_accepted f))

-- the sum of the amounts
abbrev pub total : List Found → ℕ
total [] = 0
total (f ∷ fs) = f.amount + total fs

-- how many of them have an account of zeros
abbrev pub watched : List Found → ℕ
watched fs = length (those (λ f. f.zero) fs)

-- how many they are, and the sum of their amounts
abbrev pub totals_of : List Found → Totals
totals_of fs = record { count = length fs; sum = total fs }

abbrev pub none : Totals
none = record { count = 0; sum = 0 }

-- what closing gives: refusal 6 or 0, and the numbers
pub record Verdict : Type 0 where
  pub refusal : ℕ
  pub closing : Closing

-- no head was read: kind 0, and no bar
abbrev pub untold : Told
untold = record { kind = 0; barred = false }

-- a message code and an identifier beside the kind of message, with the five numbers at 0
abbrev pub blank : ℕ → ℕ → List ℕ → Closing
blank kind c id = record { code = c; kind = kind; accepted = none; refused = none; zeros = 0; id = id }

-- refused, with nothing to say
abbrev pub overflow : Verdict
overflow = record { refusal = 6; closing = blank 0 0 no_id }

-- not refused
abbrev pub given : Closing → Verdict
given c = record { refusal = 0; closing = c }

-- the items that were found, with the kind of message and an identifier
abbrev pub counted : ℕ → List Found → List ℕ → Closing
counted kind fs id =
    record {
      code = 0;
      kind = kind;
      accepted = totals_of (accepted fs);
      refused = totals_of (refused fs);
      zeros = watched (accepted fs);
      id = id;
    }

module _ (R : Rules) where
  -- what is found in items of which the first stands at place k
  unfoldable pub findings : Told → ℕ → List (List ℕ) → List Found
  findings told k [] = []
  findings told k (r ∷ rs) = R.item told k r ∷ findings told (k + 1) rs

  -- what is found in the items of a message
  abbrev pub found_in : List ℕ → List Found
  found_in m = findings (R.tells (head_of lengths m)) 1 (items_of lengths m)

  -- the ranking of 01, read downwards: break, letter, head, items in order, foot
  unfoldable pub message_code : List ℕ → ℕ
  message_code m =
      first
      (cond (is_broken lengths m) 26 0
      ∷ cond (R.head_letter (head_of lengths m) || any (map (λ f. f.letter) (found_in m))) 36 0
      ∷ R.head_code (head_of lengths m)
      ∷ first (map (λ f. f.fault) (found_in m))
      ∷ R.foot_code (length (found_in m)) (total (found_in m)) (foot_of lengths m)
      ∷ [])

  -- positions 10-34 as they stand, once a head with its right ending was read; else spaces
  unfoldable pub identifier : List ℕ → List ℕ
  identifier m = cond (head_stands lengths m) (id_of (head_of lengths m)) no_id

  -- what the head told, once one with its right ending was read
  unfoldable pub told_by : List ℕ → Told
  told_by m = cond (head_stands lengths m) (R.tells (head_of lengths m)) untold

  -- more complete items before any break than the table has bytes
  abbrev pub overflows : List ℕ → List ℕ → Bool
  overflows t m = ltb (length t) (length (found_in m))

  -- the verdict; overflow comes first, and a code other than 00 has no numbers
  unfoldable pub verdict : List ℕ → List ℕ → Verdict
  verdict t m =
      cond (overflows t m)
      overflow
      (given
      (cond (eqb (message_code m) 0)
      (counted (told_by m).kind (found_in m) (identifier m))
      (blank (told_by m).kind (message_code m) (identifier m))))

  -- the table afterwards: the items' codes, each in its own byte, and the other bytes as they were
  unfoldable pub table_after : List ℕ → List ℕ → List ℕ
  table_after t m = take (length t) (map (λ f. f.code) (found_in m) ++ drop (length (found_in m)) t)
