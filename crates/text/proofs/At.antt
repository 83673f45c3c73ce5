-- Text put at a place of a list, and into a part of it, said of the whole.
-- Assumes nothing.
use mathlib.Core.Path.{◌≡◌, ◌∙◌}
use mathlib.Core.List.{List}
use Prim.Native.Nat.{ℕ, ◌+◌, ◌-◌, ◌≤◌, ◌<◌}
use native.Mathlib.Omega.{arith}
use lib.ListN.{length, take, drop}
use borrow.Author.Tests.{le-leb, lt-leb}
use borrow.Rule.Slice.PartMut.{put_mid}
use Rattle.base.specs.Bytes.{over}
use Rattle.base.specs.Put.{Put}
use Rattle.base.proofs.Over.{part}
use Rattle.base.proofs.Parts.{part_length}
use Rattle.text.specs.Text.{with_bytes, with_bytes_at, after_bytes}

-- there is room
pub fits : (xs s : List ℕ) → length s ≤ length xs → with_bytes xs s ≡ over xs 0 s
unfolding with_bytes
fits xs s h = rw (le-leb (length s) (length xs) h)

-- the part from a place on
pub put_at_lem : (xs : List ℕ) (at : ℕ) (s ys : List ℕ) → at + length s ≤ length xs → ys ≡ with_bytes (take (length xs - at) (drop at xs)) s
    → put_mid at (length xs - at) xs ys ≡ over xs at s
put_at_lem xs at s ys h e =
    let l = part_length xs at (length xs) (omega arith) (omega arith) in
    part xs at s ys h (e ∙ fits (take (length xs - at) (drop at xs)) s (omega (arith, l)))

-- what `text::put_at` gives
abbrev pub PutAt : List ℕ → ℕ → List ℕ → ℕ → List ℕ → Type 0
PutAt xs at s r ys = (r ≡ after_bytes xs at s) × (ys ≡ with_bytes_at xs at s)

module _ (xs : List ℕ) (at : ℕ) (s : List ℕ) where
  -- where it fits
  pub puts : at + length s ≤ length xs → {r : ℕ} {ys : List ℕ} → PutAt xs at s r ys → Put xs at s r ys
  unfolding after_bytes with_bytes_at
  puts h p =
      let e = le-leb (at + length s) (length xs) h in
      record { next = simp e at p.0; bytes = simp e at p.1 }

  -- where it does not
  pub stays : length xs < at + length s → PutAt xs at s at xs
  unfolding after_bytes with_bytes_at
  stays h = let e = lt-leb (at + length s) (length xs) h in (simp e, simp e)
