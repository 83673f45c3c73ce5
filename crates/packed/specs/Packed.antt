-- A session as bytes, and the session that bytes stand for (docs/SESSION.md, The session as bytes).
-- Assumes nothing.
use Rattle.std.specs.Prelude.{ℕ, zero, suc, ◌+◌, ◌*◌, ◌/◌, ◌%◌, ◌<◌, ◌≡◌, Bool, cond, ◌&&◌, List, [], ◌∷◌, ◌++◌, length, get_or, take, drop, leb, eqb}
use Rattle.base.specs.Bytes.{over}
use Rattle.frame.specs.declared.Totals.{Totals}
use Rattle.frame.specs.declared.Told.{Told}
use Rattle.frame.specs.declared.Tally.{Tally}
use Rattle.judge.specs.declared.Session.{Session}
use Rattle.judge.specs.declared.Step.{Step}
use Rattle.judge.specs.Session.{longest, closed_session, taken, table_taken, Stepped}
use Rattle.lent.specs.Lent.{Outcome, Lists, by}

-- a packed session has so many bytes
abbrev pub packed_bytes : ℕ
packed_bytes = 93 + longest

-- a number in k bytes, the least first
unfoldable pub little : ℕ → ℕ → List ℕ
little zero n = []
little (suc k) n = n % 256 ∷ little k (n / 256)

-- the number that bytes stand for, the least first
unfoldable pub value : List ℕ → ℕ
value [] = 0
value (b ∷ bs) = value bs * 256 + b

-- numbers in eight bytes each
unfoldable pub eights : List ℕ → List ℕ
eights [] = []
eights (n ∷ ns) = little 8 n ++ eights ns

-- the number in w bytes at a place, counted from 0
abbrev pub value_at : ℕ → ℕ → List ℕ → ℕ
value_at w at x = value (take w (drop at x))

-- a count and a sum from a place on
abbrev pub totals_at : ℕ → List ℕ → Totals
totals_at at x = record { count = value_at 8 at x; sum = value_at 8 (at + 8) x }

-- phase, letter and code, a byte each
unfoldable pub flags : Tally → List ℕ
flags c = c.phase ∷ cond c.letter 1 0 ∷ c.code ∷ []

-- what the head told: the kind and the bar, a byte each, and two zeros
unfoldable pub told_bytes : Told → List ℕ
told_bytes t = t.kind ∷ cond t.barred 1 0 ∷ 0 ∷ 0 ∷ []

-- what was counted, and how many bytes are held
unfoldable pub counts : Tally → ℕ → List ℕ
counts c fill =
    c.accepted.count
    ∷ c.accepted.sum
    ∷ c.refused.count
    ∷ c.refused.sum
    ∷ c.zeros
    ∷ fill
    ∷ []

-- the bytes of a session
unfoldable pub bytes_of : Session → List ℕ
bytes_of s =
    1 ∷ flags s.tally  -- 0-3
    ++ little 4 s.day  -- 4-7
    ++ told_bytes s.tally.told  -- 8-11
    ++ eights (s.room ∷ counts s.tally s.fill)  -- 12-67
    ++ s.tally.id  -- 68-92
    ++ s.held  -- from 93 on

-- as many bytes, with the mark, a letter and a bar of 0 or 1, and the two zeros
unfoldable pub is_packed : List ℕ → Bool
is_packed x =
    eqb (length x) packed_bytes
    && (eqb (get_or x 0 0) 1 && (leb (get_or x 2 0) 1 && (leb (get_or x 9 0) 1 && (eqb (get_or x 10 0) 0 && eqb (get_or x 11 0) 0))))

-- the tally and the session that such bytes stand for
unfoldable pub tally_in : List ℕ → Tally
tally_in x =
    record {
      phase = get_or x 1 0;
      told = record { kind = get_or x 8 0; barred = eqb (get_or x 9 0) 1 };
      letter = eqb (get_or x 2 0) 1;
      code = get_or x 3 0;
      accepted = totals_at 20 x;
      refused = totals_at 36 x;
      zeros = value_at 8 52 x;
      id = take 25 (drop 68 x);
    }

unfoldable pub session_in : List ℕ → Session
session_in x =
    record {
      day = value_at 4 4 x;
      room = value_at 8 12 x;
      tally = tally_in x;
      fill = value_at 8 60 x;
      held = take longest (drop 93 x);
    }

-- any other bytes stand for the closed session
unfoldable pub unpacked : List ℕ → Session
unpacked x = cond (is_packed x) (session_in x) closed_session

-- packing, into a buffer of so many bytes and no other; the session can be had again
pub record PackedAs (s : Session) (x : List ℕ) (r : Bool) (x' : List ℕ) : Type 0 where
  pub answer : r ≡ eqb (length x) packed_bytes
  pub bytes : x' ≡ cond (eqb (length x) packed_bytes) (bytes_of s) x
  pub back : unpacked (bytes_of s) ≡ s

-- taking a piece in place: the outcome, every byte of the session and of the table; the bytes then stand for the session to use next
pub record TakenIn (x p : List ℕ) (l : Lists) (t : List ℕ) (r : Outcome) (x' t' : List ℕ) : Type 0 where
  pub outcome : r ≡ (taken (unpacked x) p l t).outcome
  pub session : x' ≡ by r (bytes_of (taken (unpacked x) p l t).next) (λ f. x)
  pub table : t' ≡ table_taken (unpacked x) p l t
  pub holds : unpacked x' ≡ (taken (unpacked x) p l t).next

-- every number fits the type of its field, as in each tally and each session that code holds
pub record TallyFits (c : Tally) (held : ℕ) : Type 0 where
  pub accepted_count : c.accepted.count < 18446744073709551616
  pub accepted_sum : c.accepted.sum < 18446744073709551616
  pub refused_count : c.refused.count < 18446744073709551616
  pub refused_sum : c.refused.sum < 18446744073709551616
  pub zeros : c.zeros < 18446744073709551616
  pub fill : held < 18446744073709551616
  pub id : length c.id ≡ 25

pub record Fits (s : Session) : Type 0 where
  pub day : s.day < 4294967296
  pub room : s.room < 18446744073709551616
  pub tally : TallyFits s.tally s.fill
  pub held : length s.held ≡ longest

-- a tally's numbers and how many bytes are held, over their places; and the identifier
unfoldable pub counts_over : Tally → ℕ → List ℕ → List ℕ
counts_over c fill x = over (over (over x 1 (flags c)) 8 (told_bytes c.told)) 20 (eights (counts c fill))

unfoldable pub tally_over : Tally → ℕ → List ℕ → List ℕ
tally_over c fill x = over (counts_over c fill x) 68 c.id

pub record CountsPut (c : Tally) (fill : ℕ) (x x' : List ℕ) : Type 0 where
  pub bytes : x' ≡ counts_over c fill x
  pub fits : TallyFits c fill

-- where the head was read, by the phase in byte 1, the identifier stands in its place
pub record Named (c : Tally) (x : List ℕ) : Type 0 where
  pub stands : (get_or x 1 0 ≡ 0 → ⊥) → take 25 (drop 68 x) ≡ c.id

pub record TallyPut (c : Tally) (fill : ℕ) (x x' : List ℕ) : Type 0 where
  pub bytes : x' ≡ tally_over c fill x
  pub fits : TallyFits c fill

-- a piece is taken with the bytes held where they stand; the bytes before them stay
pub record SteppedIn (x p : List ℕ) (l : Lists) (t : List ℕ) (r : Step) (x' t' : List ℕ) : Type 0 where
  pub stays : x' ≡ over x 93 (drop 93 x')
  pub held : Stepped (value_at 4 4 x) (value_at 8 12 x) (tally_in x) (value_at 8 60 x) (take longest (drop 93 x)) p l t r (drop 93 x') t'
