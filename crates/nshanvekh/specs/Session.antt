-- What the calls over a session answer, and what they leave in the memory that was lent (01, Calls and their answers).
-- Assumes nothing.
use Rattle.std.specs.Prelude.{ℕ, ◌≡◌, Bool, true, cond, ◌&&◌, List, [], ◌∷◌, length, eqb, Result, Ok, Err}
use Rattle.frame.specs.declared.Closing.{Closing}
use Rattle.lent.specs.Lent.{Lists, outcome_number}
use Rattle.lent.specs.declared.Refusal.{Refusal}
use Rattle.judge.specs.Session.{opened, taken, table_taken, closed_of}
use Rattle.packed.specs.Packed.{packed_bytes, bytes_of, unpacked}

-- a buffer has the size that the call asks for
abbrev pub sized : List ℕ → ℕ → Bool
sized x n = eqb (length x) n

-- the refusal of a buffer of another size, before anything else
abbrev pub wrong_size : ℕ
wrong_size = 99

-- what is written by a call whose number is 0, and stays as it was after any other
abbrev pub if_done : ℕ → List ℕ → List ℕ → List ℕ
if_done n new old = cond (eqb n 0) new old

-- opening; after 1 and 4 the buffer holds the closed session. What it holds is what the next call takes out
pub record OpenedAs (e : ℕ) (t x : List ℕ) (r : ℕ) (x' : List ℕ) : Type 0 where
  pub answer : r ≡ cond (sized x packed_bytes) (outcome_number (opened e t).outcome) wrong_size
  pub session : x' ≡ cond (sized x packed_bytes) (bytes_of (opened e t).next) x
  pub holds : sized x packed_bytes ≡ true → unpacked x' ≡ (opened e t).next

-- taking a piece
pub record PieceAs (x p : List ℕ) (l : Lists) (t : List ℕ) (r : ℕ) (x' t' : List ℕ) : Type 0 where
  pub answer : r ≡ cond (sized x packed_bytes) (outcome_number (taken (unpacked x) p l t).outcome) wrong_size
  pub session : x' ≡ if_done r (bytes_of (taken (unpacked x) p l t).next) x
  pub table : t' ≡ cond (sized x packed_bytes) (table_taken (unpacked x) p l t) t
  pub holds : r ≡ 0 → unpacked x' ≡ (taken (unpacked x) p l t).next

-- the numbers of a closing: code, accepted count and sum, refused count and sum, zero watch, kind of message
unfoldable pub closing_numbers : Closing → List ℕ
closing_numbers k = k.code ∷ k.accepted.count ∷ k.accepted.sum ∷ k.refused.count ∷ k.refused.sum ∷ k.zeros ∷ k.kind ∷ []

-- what is written of what a call gives; what stood there stays where it is refused
abbrev pub told : {A : Type 0} → Result A Refusal → (A → List ℕ) → List ℕ → List ℕ
told (Ok a) f old = f a
told (Err r) f old = old

abbrev pub closing_id : Closing → List ℕ
closing_id k = k.id

-- what closing tells
pub record ClosingTold (k : Result Closing Refusal) (ns id : List ℕ) (r : ℕ) (ns' id' : List ℕ) : Type 0 where
  pub answer : r ≡ outcome_number k
  pub numbers : ns' ≡ told k closing_numbers ns
  pub identifier : id' ≡ told k closing_id id

-- a session, seven numbers, an identifier
abbrev pub sized_all : List ℕ → List ℕ → List ℕ → Bool
sized_all x ns id = sized x packed_bytes && (sized ns 7 && sized id 25)

-- closing: 0 and 6 leave a closed session, 5 and 99 the bytes that came
pub record ClosedAs (x ns id : List ℕ) (r : ℕ) (x' ns' id' : List ℕ) : Type 0 where
  pub answer : r ≡ cond (sized_all x ns id) (outcome_number (closed_of (unpacked x)).closing) wrong_size
  pub session : x' ≡ cond (sized_all x ns id) (cond (eqb r 5) x (bytes_of (closed_of (unpacked x)).next)) x
  pub numbers : ns' ≡ cond (sized_all x ns id) (told (closed_of (unpacked x)).closing closing_numbers ns) ns
  pub identifier : id' ≡ cond (sized_all x ns id) (told (closed_of (unpacked x)).closing closing_id id) id
