-- What the frame's theorems and the session's ranges need of field rules.
-- Assumes nothing.
use Rattle.std.specs.Prelude.{ℕ, ◌≤◌, ◌≡◌, Bool, cond, List}
use Rattle.frame.specs.declared.Told.{Told}
use Rattle.frame.specs.Verdict.{Rules}

-- a code has two digits, an amount ten (002 sections 1.1.1 and 1.3)
abbrev pub most_code : ℕ
most_code = 99

abbrev pub most_amount : ℕ
most_amount = 9999999999

-- the most that a kind's number is; under a bar, of which only kind 0 knows, it is 0 (02 #101, #105)
abbrev pub most_kind : Bool → ℕ
most_kind barred = cond barred 0 1

-- what a head can tell
abbrev pub CanTell : Told → Type 0
CanTell t = t.kind ≤ most_kind t.barred

pub record Sound (R : Rules) : Type 0 where
  -- what is told, the codes and the amounts are in their ranges
  pub told : (r : List ℕ) → CanTell (R.tells r)
  pub head : (r : List ℕ) → R.head_code r ≤ most_code
  pub fault : (told : Told) (k : ℕ) (r : List ℕ) → (R.item told k r).fault ≤ most_code
  pub code : (told : Told) (k : ℕ) (r : List ℕ) → (R.item told k r).code ≤ most_code
  pub amount : (told : Told) (k : ℕ) (r : List ℕ) → (R.item told k r).amount ≤ most_amount
  pub foot : (count sum : ℕ) (r : List ℕ) → R.foot_code count sum r ≤ most_code
  -- a foot without a fault states the items' number and sum
  pub foot_says : (count sum : ℕ) (r : List ℕ) → R.foot_code count sum r ≡ 0 → (R.foot_count r ≡ count) × (R.foot_sum r ≡ sum)
