-- What was written at the front of an output, as callers take it: its length lies within the output, which stays as long as it was.
-- Assumes nothing.
use mathlib.Core.Path.{◌≡◌, refl, sym, ap, ◌∙◌}
use mathlib.Core.Bool.{Bool, true, false, cond}
use mathlib.Core.List.{List}
use Prim.Native.Nat.{ℕ, ◌≤◌}
use native.Mathlib.Omega.{arith}
use lib.Dec.{leb}
use lib.ListN.{length, take}
use lib.Seq.{length-take-le}
use borrow.Author.Tests.{leb-true}
use Rattle.base.specs.Bytes.{over}
use Rattle.base.specs.Put.{Written}
use Rattle.base.proofs.Over.{length_over}

-- the front of a list, as a caller takes it
pub record Front (n : ℕ) (l : List ℕ) : Type 0 where
  pub low : n ≤ length l
  pub long : n ≡ length (take n l)

pub front : (n : ℕ) (l : List ℕ) → n ≤ length l → Front n l
front n l h = record { low = h; long = sym (length-take-le n l h) }

-- the text that was written
pub text : {d x : List ℕ} {r : ℕ} {y : List ℕ} → Written d x r y → Front r y
text {d} {x} {r} {y} w = front r y (go (leb (length d) (length x)) refl w.count w.bytes)
  where
    go : (t : Bool) → leb (length d) (length x) ≡ t → r ≡ cond t (length d) 0 → y ≡ cond t (over x 0 d) x → r ≤ length y
    go true e p q =
        let h = leb-true (length d) (length x) e in
        omega (arith, ap length q, length_over x 0 d (omega arith))
    go false e p q = omega arith

-- the output stays as long as it was
pub kept : {d x : List ℕ} {r : ℕ} {y : List ℕ} → Written d x r y → length y ≡ length x
kept {d} {x} {r} {y} w = go (leb (length d) (length x)) refl w.bytes
  where
    go : (t : Bool) → leb (length d) (length x) ≡ t → y ≡ cond t (over x 0 d) x → length y ≡ length x
    go true e q =
        let h = leb-true (length d) (length x) e in
        ap length q ∙ length_over x 0 d (omega arith)
    go false e q = ap length q
