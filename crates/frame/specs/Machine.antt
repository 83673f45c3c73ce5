-- The reading by pieces: a state, a step for each byte, and what closing says of a state.
-- Assumes nothing.
use Rattle.std.specs.Prelude.{ℕ, ◌+◌, Bool, false, cond, not, ◌&&◌, ◌||◌, List, [], ◌∷◌, ◌++◌, length, take, set, leb, ltb, eqb}
use Rattle.frame.specs.declared.Found.{Found}
use Rattle.frame.specs.declared.Totals.{Totals}
use Rattle.frame.specs.declared.Tally.{Tally}
use Rattle.frame.specs.declared.Closing.{Closing}
use Rattle.frame.specs.Records.{lengths, head_end, item_end, foot_end, no_id, id_of, ended, is_foot}
use Rattle.frame.specs.Verdict.{Rules, Verdict, is_accepted, none, untold, blank, overflow, given}

-- what was counted and found so far, the bytes of the record begun, and the code table
pub record State : Type 0 where
  pub tally : Tally
  pub held : List ℕ
  pub table : List ℕ

-- nothing is read yet
abbrev pub unread : Tally
unread = record { phase = 0; told = untold; letter = false; code = 0; accepted = none; refused = none; zeros = 0; id = no_id }

abbrev pub fresh : List ℕ → State
fresh t = record { tally = unread; held = []; table = t }

-- at a phase: 0 in the head, 1 after it, 2 the foot is read, 3 broken, 4 overflow
abbrev pub phased : ℕ → Tally → Tally
phased p c =
    record {
      phase = p;
      told = c.told;
      letter = c.letter;
      code = c.code;
      accepted = c.accepted;
      refused = c.refused;
      zeros = c.zeros;
      id = c.id;
    }

-- and with h held
abbrev pub at : ℕ → List ℕ → State → State
at p h s = record { tally = phased p s.tally; held = h; table = s.table }

-- how many items were read, and the sum of their amounts
abbrev pub items : Tally → ℕ
items c = c.accepted.count + c.refused.count

abbrev pub sum : Tally → ℕ
sum c = c.accepted.sum + c.refused.sum

-- a fault keeps its place before a later one
abbrev pub earlier : ℕ → ℕ → ℕ
earlier c d = cond (eqb c 0) d c

-- one item more, if so
abbrev pub more : Bool → ℕ → Totals → Totals
more b a t = record { count = t.count + cond b 1 0; sum = t.sum + cond b a 0 }

-- what is found in an item is counted
unfoldable pub item_tally : Tally → Found → Tally
item_tally c f =
    record {
      phase = 1;
      told = c.told;
      letter = c.letter || f.letter;
      code = earlier c.code f.fault;
      accepted = more (is_accepted f) f.amount c.accepted;
      refused = more (not (is_accepted f)) f.amount c.refused;
      zeros = c.zeros + cond (is_accepted f && f.zero) 1 0;
      id = c.id;
    }

-- and its code goes to its own byte
unfoldable pub item_counted : State → Found → State
item_counted s f = record { tally = item_tally s.tally f; held = []; table = set s.table (items s.tally) f.code }

-- the length, with its ending, of the record that begins with h
unfoldable pub size : ℕ → List ℕ → ℕ
size p h = cond (eqb p 0) head_end (cond (is_foot h) foot_end item_end)

module _ (R : Rules) where
  -- the head is read. code is the first fault of head, items and foot, in the order in which they come
  unfoldable pub head_tally : Tally → List ℕ → Tally
  head_tally c r =
      record {
        phase = 1;
        told = R.tells r;
        letter = R.head_letter r;
        code = R.head_code r;
        accepted = c.accepted;
        refused = c.refused;
        zeros = c.zeros;
        id = id_of r;
      }

  unfoldable pub head_read : State → List ℕ → State
  head_read s r = record { tally = head_tally s.tally r; held = []; table = s.table }

  -- an item is read; where the table has no byte for it, judging stops
  unfoldable pub item_read : State → List ℕ → State
  item_read s r =
      cond (ltb (items s.tally) (length s.table))
      (item_counted s (R.item s.tally.told (items s.tally + 1) r))
      (at 4 [] s)

  -- the foot is read; with no item before it, that is a break
  unfoldable pub foot_tally : Tally → List ℕ → Tally
  foot_tally c r =
      cond (eqb (items c) 0)
      (phased 3 c)
      (record {
        phase = 2;
        told = c.told;
        letter = c.letter;
        code = earlier c.code (R.foot_code (items c) (sum c) r);
        accepted = c.accepted;
        refused = c.refused;
        zeros = c.zeros;
        id = c.id;
      })

  unfoldable pub foot_read : State → List ℕ → State
  foot_read s r = record { tally = foot_tally s.tally r; held = []; table = s.table }

  -- a record of its whole length, with its ending
  unfoldable pub judged : State → List ℕ → State
  judged s x =
      cond (eqb s.tally.phase 0)
      (cond (ended lengths.head x) (head_read s (take lengths.head x)) (at 3 [] s))
      (cond (is_foot x)
      (cond (ended lengths.foot x) (foot_read s (take lengths.foot x)) (at 3 [] s))
      (cond (ended lengths.item x) (item_read s (take lengths.item x)) (at 3 [] s)))

  -- h is held, or judged where it is whole
  unfoldable pub pushed : State → List ℕ → State
  pushed s h = cond (leb (size s.tally.phase h) (length h)) (judged s h) (at s.tally.phase h s)

  -- one byte: a byte after the foot is a break; after a break or an overflow nothing is judged
  unfoldable pub step : State → ℕ → State
  step s b = cond (leb s.tally.phase 1) (pushed s (s.held ++ (b ∷ []))) (cond (eqb s.tally.phase 4) s (at 3 [] s))

  unfoldable pub run : State → List ℕ → State
  run s [] = s
  run s (b ∷ bs) = run (step s b) bs

-- pieces one after the other
unfoldable pub runs : Rules → State → List (List ℕ) → State
runs R s [] = s
runs R s (p ∷ ps) = runs R (run R s p) ps

-- the uncut message
unfoldable pub joined : List (List ℕ) → List ℕ
joined [] = []
joined (p ∷ ps) = p ++ joined ps

-- the numbers of a tally without a fault
abbrev pub numbers : Tally → Closing
numbers c = record { code = 0; kind = c.told.kind; accepted = c.accepted; refused = c.refused; zeros = c.zeros; id = c.id }

-- what closing says of a tally
unfoldable pub closing : Tally → Verdict
closing c =
    cond (eqb c.phase 4)
    overflow
    (given
    (cond (eqb c.phase 2)
    (cond c.letter (blank c.told.kind 36 c.id) (cond (eqb c.code 0) (numbers c) (blank c.told.kind c.code c.id)))
    (blank c.told.kind 26 c.id)))
