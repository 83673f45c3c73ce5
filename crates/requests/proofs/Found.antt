-- What a search for an identifier found: whether a request has it, and the request as code lends it.
-- Assumes nothing.
use mathlib.Core.Path.{◌≡◌, refl, ap, sym, ◌∙◌}
use mathlib.Core.Bool.{true, false}
use mathlib.Core.List.{List, [], ◌∷◌}
use Prim.Native.Nat.{ℕ, zero, suc, ◌*◌, ◌/◌, ◌<◌}
use native.Mathlib.Omega.{arith}
use lib.ListN.{length, get_or, take, drop}
use Rattle.std.specs.Prelude.{Option, Some, None, position}
use Rattle.std.specs.Simd.{first_chunks}
use Rattle.base.specs.Groups.{groups}
use Rattle.base.proofs.Groups.{length_groups, group_at, some_within}
use Rattle.base.proofs.Chunks.{position_none, position_found}
use Rattle.requests.specs.Requests.{requests_of, has_id, is_asked, request_of}

-- the arrays that a slice is cut into are its groups
pub arrays : (n k : ℕ) (l : List ℕ) → first_chunks n k l ≡ groups n n k l
arrays n zero l = refl
arrays n (suc k) l = ap (λ (x : List (List ℕ)). take n l ∷ x) (arrays n k (drop n l))

module _ (l id : List ℕ) {r : Option ℕ} (p : r ≡ position (has_id id) (requests_of l)) where
  pub unasked : r ≡ None → is_asked id (requests_of l) ≡ false
  unasked n = position_none (has_id id) (requests_of l) p n

  module _ {j : ℕ} (s : r ≡ Some j) where
    pub asked : is_asked id (requests_of l) ≡ true
    asked = (position_found (has_id id) (requests_of l) p s).0

    pub inside : j < length l / 65
    inside =
        let f = position_found (has_id id) (requests_of l) p s in
        omega (arith, f.1, some_within (has_id id) (requests_of l) f.0, length_groups 65 65 (length l / 65) l)

    own : request_of id (requests_of l) ≡ get_or (requests_of l) j []
    unfolding request_of
    own = ap (λ (i : ℕ). get_or (requests_of l) i []) (sym (position_found (has_id id) (requests_of l) p s).1)

    pub lent : request_of id (requests_of l) ≡ take 65 (drop (j * 65) l)
    lent = own ∙ group_at 65 65 (length l / 65) l j inside

    -- as one of the list's arrays
    pub lent_whole : request_of id (requests_of l) ≡ get_or (first_chunks 65 (length l / 65) l) j []
    lent_whole = own ∙ ap (λ (x : List (List ℕ)). get_or x j []) (sym (arrays 65 (length l / 65) l))
