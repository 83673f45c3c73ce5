-- The request with an identifier: it has it, and it has 65 bytes.
-- Assumes nothing.
use mathlib.Core.Path.{◌≡◌, ap, ◌∙◌}
use mathlib.Core.Bool.{true}
use mathlib.Core.List.{List, []}
use Prim.Native.Nat.{ℕ, ◌*◌, ◌/◌, ◌<◌}
use native.Mathlib.Omega.{arith}
use lib.ListN.{length, drop, length-drop}
use lib.Seq.{length-take-le}
use Rattle.base.specs.Bytes.{field}
use Rattle.base.specs.Groups.{place}
use Rattle.base.proofs.Groups.{length_groups, group_at, some_within, place_passes}
use Rattle.base.proofs.Same.{same_true}
use Rattle.requests.specs.Requests.{requests_of, has_id, is_asked, request_of}

module _ (l id : List ℕ) (e : is_asked id (requests_of l) ≡ true) where
  pub request_id : field 1 25 (request_of id (requests_of l)) ≡ id
  unfolding request_of has_id
  request_id = same_true (field 1 25 (request_of id (requests_of l))) id (place_passes (has_id id) (requests_of l) [] e)

  pub request_long : length (request_of id (requests_of l)) ≡ 65
  unfolding request_of
  request_long =
      let j = place (has_id id) (requests_of l) in
      let n = length l / 65 in
      let h : j < n = omega (arith, some_within (has_id id) (requests_of l) e, length_groups 65 65 n l) in
      ap length (group_at 65 65 n l j h) ∙ length-take-le 65 (drop (j * 65) l) (omega (arith, length-drop (j * 65) l))
