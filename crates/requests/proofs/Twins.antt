-- The walk over a list that looks at each sum, and for each request at those after it: the requests that are left decide as all do.
-- Assumes nothing.
use mathlib.Core.Path.{◌≡◌, refl, sym, ap, ◌∙◌}
use mathlib.Core.Bool.{Bool, true, false, not, ◌&&◌}
use mathlib.Core.List.{List, ◌∷◌}
use Prim.Native.Nat.{ℕ, ◌+◌, ◌-◌, ◌*◌, ◌/◌, ◌%◌, ◌≤◌, ◌<◌}
use native.Mathlib.Omega.{arith}
use lib.ListN.{length, take, drop, length-drop, drop_of_length-le}
use lib.Seq.{drop-drop}
use borrow.Author.Tests.{eq-eqb, ne_eqb}
use Rattle.std.specs.Prelude.{Option, is_some, position}
use Rattle.base.specs.Bytes.{field}
use Rattle.base.specs.Groups.{groups, some}
use Rattle.base.proofs.Groups.{length_groups, later_groups}
use Rattle.base.proofs.Chunks.{position_some}
use Rattle.base.proofs.Parts.{tail}
use Rattle.digits.specs.Digits.{is_digits}
use Rattle.requests.specs.Requests.{requests_of, has_id, are_requests, is_request_list}
use Rattle.requests.proofs.Search.{stands}

pub record Walked (l : List ℕ) (k : ℕ) : Type 0 where
  pub whole : length l % 65 ≡ 0
  pub left : are_requests (drop k (requests_of l)) ≡ are_requests (requests_of l)

-- a list of whole requests is one by its requests
is_list : (l : List ℕ) → length l % 65 ≡ 0 → is_request_list l ≡ are_requests (requests_of l)
unfolding is_request_list
is_list l h = simp (eq-eqb (length l % 65) 0 h)

pub cut_short : (l : List ℕ) → (length l % 65 ≡ 0 → ⊥) → false ≡ is_request_list l
unfolding is_request_list
cut_short l h = simp (ne_eqb (length l % 65) 0 h)

pub start : (l : List ℕ) → length l % 65 ≡ 0 → Walked l 0
start l h = record { whole = h; left = refl }

module _ {l : List ℕ} {k : ℕ} (w : Walked l k) where
  pub ends : length l / 65 ≤ k → true ≡ is_request_list l
  unfolding are_requests
  ends h =
      let g : length (requests_of l) ≤ k = omega (arith, length_groups 65 65 (length l / 65) l) in
      ap are_requests (sym (drop_of_length-le (requests_of l) g)) ∙ w.left ∙ sym (is_list l w.whole)

  -- the k-th request and the bytes after it, as code lends them
  module _ (h : k < length l / 65) {q later : List ℕ} (front : q ≡ take 65 (take (length l - k * 65) (drop (k * 65) l)))
      (back : later ≡ drop 65 (take (length l - k * 65) (drop (k * 65) l))) (long : length q ≡ 65) where
    after : requests_of later ≡ drop (k + 1) (requests_of l)
    after =
        let p : (k + 1) * 65 ≡ k * 65 + 65 = omega arith in
        let e : later ≡ drop ((k + 1) * 65) l =
        back ∙ ap (drop 65) (tail l (k * 65)) ∙ drop-drop 65 (k * 65) l ∙ ap (λ (i : ℕ). drop i l) (sym p) in
        let n : length later / 65 ≡ length l / 65 - (k + 1) =
        ap (λ (x : List ℕ). length x / 65) e ∙ ap (λ (i : ℕ). i / 65) (length-drop ((k + 1) * 65) l) ∙ omega arith in
        ap (λ (i : ℕ). groups 65 65 i later) n
        ∙ ap (groups 65 65 (length l / 65 - (k + 1))) e
        ∙ sym (later_groups 65 65 (length l / 65) l (k + 1) (omega arith))

    turn : is_digits (field 50 65 q) && (not (some (has_id (field 1 25 q)) (requests_of later)) && are_requests (requests_of later)) ≡ is_request_list l
    unfolding are_requests
    turn =
        ap (λ (x : List (List ℕ)). are_requests (q ∷ x)) after
        ∙ ap (λ (x : List ℕ). are_requests (x ∷ drop (k + 1) (requests_of l))) (front ∙ ap (take 65) (tail l (k * 65)))
        ∙ ap are_requests (sym (stands l k h))
        ∙ w.left
        ∙ sym (is_list l w.whole)

    sum : take (length q - 49) (drop 49 q) ≡ field 50 65 q
    sum = ap (λ (i : ℕ). take (i - 49) (drop 49 q)) long

    pub no_sum : is_digits (take (length q - 49) (drop 49 q)) ≡ false → false ≡ is_request_list l
    no_sum e =
        let d : is_digits (field 50 65 q) ≡ false = ap is_digits (sym sum) ∙ e in
        simp d at turn

    module _ (e : is_digits (take (length q - 49) (drop 49 q)) ≡ true) {r : Option ℕ} (f : r ≡ position (has_id (take 25 q)) (requests_of later)) where
      by_sum : not (is_some r) && are_requests (requests_of later) ≡ is_request_list l
      by_sum =
          let d : is_digits (field 50 65 q) ≡ true = ap is_digits (sym sum) ∙ e in
          ap (λ (b : Bool). not b && are_requests (requests_of later)) (position_some (has_id (take 25 q)) (requests_of later) f) ∙ simp d at turn

      pub twin : is_some r ≡ true → false ≡ is_request_list l
      twin t = simp t at by_sum

      pub on : is_some r ≡ false → Walked l (k + 1)
      on t = record { whole = w.whole; left = ap are_requests (sym after) ∙ simp t at by_sum ∙ is_list l w.whole }
