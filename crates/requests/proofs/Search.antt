-- What is left of the list at a place: the request there, and those after it.
-- Assumes nothing.
use mathlib.Core.Path.{◌≡◌}
use mathlib.Core.List.{List, ◌∷◌}
use Prim.Native.Nat.{ℕ, ◌+◌, ◌*◌, ◌/◌, ◌<◌}
use lib.ListN.{length, take, drop}
use Rattle.base.proofs.Groups.{group_step}
use Rattle.requests.specs.Requests.{requests_of}

pub stands : (l : List ℕ) (k : ℕ) → k < length l / 65 → drop k (requests_of l) ≡ take 65 (drop (k * 65) l) ∷ drop (k + 1) (requests_of l)
stands l k h = group_step 65 65 (length l / 65) l k h
