-- The codes of the items don't depend on the order of the requests (02 #103).
-- Assumes nothing.
use mathlib.Core.Path.{◌≡◌, refl, ap, ◌∙◌}
use mathlib.Core.Bool.{Bool, true, not}
use mathlib.Core.List.{List, [], ◌∷◌, ◌++◌}
use Prim.Native.Nat.{ℕ, zero, suc}
use lib.ListN.{length, get_or, take}
use Rattle.base.specs.Bytes.{field}
use Rattle.base.specs.Groups.{some}
use Rattle.base.specs.Order.{Reordered}
use Rattle.base.specs.Tables.{first_given}
use Rattle.base.proofs.Order.{some_order}
use Rattle.requests.specs.Requests.{has_id, are_requests, is_asked, request_of}
use Rattle.requests.proofs.Order.{request_order}
use Rattle.answers.specs.Answers.{rightly, fault_rows, item_code, codes_to, codes_of}

module _ {rs rs' : List (List ℕ)} (o : Reordered rs rs') (r : are_requests rs ≡ true) where
  item_order : (earlier : List (List ℕ)) (it : List ℕ) → item_code rs earlier it ≡ item_code rs' earlier it
  unfolding item_code
  item_order earlier it =
      let id = field 3 27 it in
      let q = request_of id rs in
      ap (λ (b : Bool). first_given ((74, not b) ∷ (75, some (rightly q) earlier) ∷ fault_rows q it)) (some_order (has_id id) o)
      ∙ ap (λ (q : List ℕ). first_given ((74, not (is_asked id rs')) ∷ (75, some (rightly q) earlier) ∷ fault_rows q it)) (request_order id o r)

  codes_to_lem : (its : List (List ℕ)) (k : ℕ) → codes_to rs its k ≡ codes_to rs' its k
  unfolding codes_to
  codes_to_lem its zero = refl
  codes_to_lem its (suc k) =
      ap (λ (cs : List ℕ). cs ++ (item_code rs (take k its) (get_or its k []) ∷ [])) (codes_to_lem its k)
      ∙ ap (λ (c : ℕ). codes_to rs' its k ++ (c ∷ [])) (item_order (take k its) (get_or its k []))

  pub codes_order : (its : List (List ℕ)) → codes_of rs its ≡ codes_of rs' its
  codes_order its = codes_to_lem its (length its)
