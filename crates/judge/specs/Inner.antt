-- What the inner functions of a session ask and give.
-- Assumes nothing.
use Rattle.std.specs.Prelude.{ℕ, ◌*◌, ◌≤◌, ◌<◌, ◌≡◌, List, [], length, take}
use Rattle.lent.specs.Lent.{Lent}
use Rattle.frame.specs.declared.Found.{Found}
use Rattle.frame.specs.declared.Tally.{Tally}
use Rattle.frame.specs.Verdict.{Rules}
use Rattle.frame.specs.Machine.{State, items, sum, size, item_read, foot_tally, run}
use Rattle.frame.specs.Sound.{CanTell, most_code, most_amount}
use Rattle.kinds.specs.Codes.{rules}
use Rattle.judge.specs.declared.Left.{Left}
use Rattle.judge.specs.declared.Walked.{Walked}
use Rattle.judge.specs.Session.{most, pad, state_with}

-- a tally whose numbers are in their ranges, beside a table
pub record Ready (c : Tally) (t : List ℕ) : Type 0 where
  pub phase : c.phase ≤ 4
  pub told : CanTell c.told
  pub code : c.code ≤ most_code
  pub most : length t ≤ most
  pub items : items c ≤ length t
  pub accepted : c.accepted.sum ≤ most_amount * c.accepted.count
  pub refused : c.refused.sum ≤ most_amount * c.refused.count
  pub zeros : c.zeros ≤ c.accepted.count

-- an item can be added to it
pub record Countable (c : Tally) (f : Found) : Type 0 where
  pub accepted : c.accepted.count ≤ most
  pub refused : c.refused.count ≤ most
  pub accepted_sum : c.accepted.sum ≤ most_amount * c.accepted.count
  pub refused_sum : c.refused.sum ≤ most_amount * c.refused.count
  pub zeros : c.zeros ≤ c.accepted.count
  pub amount : f.amount ≤ most_amount

-- its items and their sum are numbers of the machine
pub record Summed (c : Tally) : Type 0 where
  pub items : items c ≤ most
  pub sum : sum c < 18446744073709551616

-- a state between two records, as a tally and a table
pub record Read (s : State) (c : Tally) (t : List ℕ) : Type 0 where
  pub tally : c ≡ s.tally
  pub bytes : t ≡ s.table

-- an item is read by the rules for any lists with these banks, and this day
pub record ItemRead (e : ℕ) (banks : List ℕ) (c : Tally) (t r : List ℕ) (n : Tally) (t' : List ℕ) : Type 0 where
  pub reads : (l : Lent) → l.day ≡ e → l.lists.banks ≡ banks → Read (item_read (rules l) (state_with c [] t) r) n t'

-- a foot is read by the rules for whatever is lent
pub record FootRead (c : Tally) (r : List ℕ) (n : Tally) : Type 0 where
  pub tally : (l : Lent) → n ≡ foot_tally (rules l) c r

-- a session in parts that is ready: its tally is, and what it holds isn't a whole record
pub record Fit (c : Tally) (fill : ℕ) (h t : List ℕ) : Type 0 where
  pub ready : Ready c t
  pub early : c.phase ≤ 1 → fill < size c.phase (take fill h)
  pub late : 1 < c.phase → fill ≡ 0

-- a state as what a piece leaves, the bytes held with zeros after them, and a table
pub record Became (s : State) (l : Left) (h t : List ℕ) : Type 0 where
  pub tally : l.tally ≡ s.tally
  pub fill : l.fill ≡ length s.held
  pub held : h ≡ pad s.held
  pub bytes : t ≡ s.table

-- x begins no whole record, where one may begin
pub record Partial (c : Tally) (x : List ℕ) : Type 0 where
  pub phase : c.phase ≤ 4
  pub early : c.phase ≤ 1 → length x < size c.phase x

-- x is read with nothing held before it; no rule or table matters to it
pub record EndedAs (c : Tally) (x : List ℕ) (l : Left) (h : List ℕ) : Type 0 where
  pub became : (R : Rules) (t : List ℕ) → Became (run R (state_with c [] t) x) l h t

-- whole records of p are judged, and what is left of it begins none; to read that is to read p
pub record WalkedOf (R : Rules) (c : Tally) (p t : List ℕ) (w : Walked) (t' : List ℕ) : Type 0 where
  pub reads : run R (state_with c [] t) p ≡ run R (state_with w.tally [] t') w.rest.now
  pub ready : Ready w.tally t'
  pub early : w.tally.phase ≤ 1 → length w.rest.now < size w.tally.phase w.rest.now
