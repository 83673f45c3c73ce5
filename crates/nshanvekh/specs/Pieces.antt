-- A message in pieces, through the calls over a session.
-- Assumes nothing.
use Rattle.std.specs.Prelude.{ℕ, ◌≡◌, List, [], ◌∷◌, length, replicate}
use Rattle.lent.specs.Lent.{Lists, Lent}
use Rattle.frame.specs.Machine.{joined}
use Rattle.nshanvekh.specs.Session.{PieceAs}
use Rattle.nshanvekh.specs.Message.{JudgedNumbers}

-- pieces taken one after the other, each by the bytes and with the table that the last call left; the numbers of the calls, and the
-- bytes and the table then
pub data Given (l : Lists) : (x t : List ℕ) → List (List ℕ) → (rs x' t' : List ℕ) → Type 0 where
  none : {x t : List ℕ} → Given l x t [] [] x t
  more : {x t p : List ℕ} {r : ℕ} {y u : List ℕ} {ps : List (List ℕ)} {rs x' t' : List ℕ}
      → PieceAs x p l t r y u → Given l y u ps rs x' t' → Given l x t (p ∷ ps) (r ∷ rs) x' t'

-- opening and each piece return 0; closing returns the number, and the calls leave the numbers, the identifier and the table, that
-- the whole message gives
pub record Whole (l : Lent) (t ns id : List ℕ) (ps : List (List ℕ)) (o : ℕ) (rs : List ℕ) (r : ℕ) (t' ns' id' : List ℕ) : Type 0 where
  pub opening : o ≡ 0
  pub pieces : rs ≡ replicate (length ps) 0
  pub closing : JudgedNumbers (joined ps) l t ns id r t' ns' id'
