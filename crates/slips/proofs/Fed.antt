-- Pieces fed one after the other: none, and one more at the end.
-- Assumes nothing.
use mathlib.Core.Path.{◌≡◌, refl}
use mathlib.Core.Bool.{Bool, true, ◌&&◌, and_assoc}
use mathlib.Core.List.{List, [], ◌∷◌, ◌++◌, append_assoc, append-nil}
use Prim.Native.Nat.{ℕ, zero, suc, ◌<◌}
use lib.ListN.{get_or, take}
use lib.Dec.{ltb}
use borrow.Author.Tests.{lt-ltb}
use Rattle.base.specs.Bytes.{every}
use Rattle.lent.specs.Lent.{Lists}
use Rattle.frame.specs.Machine.{joined}
use Rattle.judge.specs.declared.Taken.{Taken}
use Rattle.slips.specs.Message.{fed_of, table_fed, FedAs, fed_all, table_fed_all, is_bytes, FedBy}

-- no piece
pub none : (t : Taken) (l : Lists) (table : List ℕ) → FedBy t l table t table
unfolding fed_all table_fed_all joined
none t l table = record { pieces = []; octets = refl; result = refl; bytes = refl }

-- a piece at the end is given what the others left
module _ (l : Lists) (p : List ℕ) where
  fed_more : (t : Taken) (table : List ℕ) (ps : List (List ℕ))
      → fed_all t table l (ps ++ (p ∷ [])) ≡ fed_of (fed_all t table l ps) p l (table_fed_all t table l ps)
  unfolding fed_all table_fed_all
  fed_more t table [] = refl
  fed_more t table (q ∷ qs) = fed_more (fed_of t q l table) (table_fed t q l table) qs

  table_more : (t : Taken) (table : List ℕ) (ps : List (List ℕ))
      → table_fed_all t table l (ps ++ (p ∷ [])) ≡ table_fed (fed_all t table l ps) p l (table_fed_all t table l ps)
  unfolding fed_all table_fed_all
  table_more t table [] = refl
  table_more t table (q ∷ qs) = table_more (fed_of t q l table) (table_fed t q l table) qs

-- the message then
joined_more : (p : List ℕ) (ps : List (List ℕ)) → joined (ps ++ (p ∷ [])) ≡ joined ps ++ p
unfolding joined
joined_more p [] = append-nil p
joined_more p (q ∷ qs) = rw (joined_more p qs, append_assoc)

every_both : (f : ℕ → Bool) (a b : List ℕ) → every f (a ++ b) ≡ every f a && every f b
every_both f [] b = refl
every_both f (x ∷ a) b = simp (every_both f a b, and_assoc)

-- the front of a space of bytes
front_bytes : (n : ℕ) (s : List ℕ) → ((i : ℕ) → get_or s i 0 < 256) → is_bytes (take n s) ≡ true
front_bytes zero s h = refl
front_bytes (suc n) [] h = refl
front_bytes (suc n) (b ∷ bs) h = rw (lt-ltb b 256 (h 0)) (front_bytes n bs (λ i. h (suc i)))

-- one piece more, the front of a space of bytes
pub one_more : {t₀ : Taken} {l : Lists} {table₀ : List ℕ} {t : Taken} {table : List ℕ} {r : Taken} {u : List ℕ}
    → FedBy t₀ l table₀ t table → (n : ℕ) (s : List ℕ) → ((i : ℕ) → get_or s i 0 < 256) → FedAs t (take n s) l table r u → FedBy t₀ l table₀ r u
one_more {t₀} {l} {table₀} f n s h k =
    let p = take n s in
    let ps = f.pieces in
    record {
      pieces = ps ++ (p ∷ []);
      octets = rw (joined_more p ps, every_both (λ x. ltb x 256) (joined ps) p, f.octets) (front_bytes n s h);
      result = rw (fed_more l p t₀ table₀ ps, ← f.result, ← f.bytes) k.result;
      bytes = rw (table_more l p t₀ table₀ ps, ← f.result, ← f.bytes) k.bytes;
    }
