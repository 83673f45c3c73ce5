-- A number put at a place of a list.
-- Assumes nothing.
use mathlib.Core.Path.{◌≡◌}
use mathlib.Core.Bool.{false}
use mathlib.Core.List.{List}
use Prim.Native.Nat.{ℕ, ◌+◌, ◌^◌, ◌≤◌, ◌<◌}
use lib.ListN.{length}
use borrow.Author.Tests.{le-leb, lt-ltb}
use Rattle.base.specs.Put.{Put}
use Rattle.digits.specs.Digits.{figures, has_room_at, with_number_at, after_number}
use Rattle.digits.proofs.Figures.{figures_length}

-- what `digits::put_at` gives
abbrev pub PutAt : List ℕ → ℕ → ℕ → ℕ → ℕ → List ℕ → Type 0
PutAt xs at w n r ys = (r ≡ after_number xs at w n) × (ys ≡ with_number_at xs at w n)

module _ (xs : List ℕ) (at w n : ℕ) where
  -- where it fits
  pub puts : at + w ≤ length xs → n < 10 ^ w → {r : ℕ} {ys : List ℕ} → PutAt xs at w n r ys → Put xs at (figures w n) r ys
  unfolding after_number with_number_at
  puts h k p =
      let e = le-leb (at + w) (length xs) h in
      let f = lt-ltb n (10 ^ w) k in
      let l = figures_length w n in
      record { next = simp l (simp (e, f) at p.0); bytes = simp (e, f) at p.1 }

  -- where it does not
  pub stays : has_room_at xs at w n ≡ false → PutAt xs at w n at xs
  unfolding after_number with_number_at
  stays e = (rw e, rw e)
