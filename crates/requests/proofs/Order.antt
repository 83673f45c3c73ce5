-- The order of the requests: whether they are a list, and which request has an identifier, don't depend on it.
-- Assumes nothing.
use mathlib.Core.Path.{◌≡◌, refl, sym, ap, ◌∙◌}
use mathlib.Core.Bool.{Bool, true, false, cond, not, ◌&&◌, ◌||◌, false≢true, and-false}
use mathlib.Core.List.Permᴰ
use mathlib.Core.List.{List, [], ◌∷◌}
use Prim.Native.Nat.{ℕ, suc}
use lib.ListN.{get_or}
use Rattle.base.specs.Bytes.{field, same}
use Rattle.base.specs.Groups.{some, place}
use Rattle.base.specs.Order.{Reordered}
use Rattle.base.proofs.Every.{both}
use Rattle.base.proofs.Order.{some_order}
use Rattle.base.proofs.Same.{same_true, same_refl, same_sym}
use Rattle.digits.specs.Digits.{is_digits}
use Rattle.requests.specs.Requests.{has_id, are_requests, request_of}

-- two requests in front change places
turned : (d e h s t r : Bool) → d && (not (h || s) && (e && (not t && r))) ≡ e && (not (h || t) && (d && (not s && r)))
turned true true true s t r = refl
turned true true false true true r = refl
turned true true false true false r = refl
turned true true false false true r = refl
turned true true false false false r = refl
turned true false h s t r = and-false (not (h || s))
turned false true h s t r = sym (and-false (not (h || t)))
turned false false h s t r = refl

-- the parts of a request that are looked at
abbrev sum : List ℕ → Bool
sum q = is_digits (field 50 65 q)

abbrev id : List ℕ → List ℕ
id q = field 1 25 q

id_sym : (p q : List ℕ) → has_id (id p) q ≡ has_id (id q) p
unfolding has_id
id_sym p q = same_sym (id q) (id p)

pub requests_order : {rs rs' : List (List ℕ)} → Reordered rs rs' → are_requests rs ≡ are_requests rs'
unfolding are_requests
requests_order Permᴰ.nil = refl
requests_order (Permᴰ.cons {b = b} {l₁ = l₁} {l₂ = l₂} e d) =
    ap (λ (q : List ℕ). sum q && (not (some (has_id (id q)) l₁) && are_requests l₁)) e
    ∙ ap (λ (x : Bool). sum b && (not x && are_requests l₁)) (some_order (has_id (id b)) d)
    ∙ ap (λ (x : Bool). sum b && (not (some (has_id (id b)) l₂) && x)) (requests_order d)
requests_order (Permᴰ.swap {a = a} {b = b} {a' = a'} {b' = b'} {l = l} e g) =
    ap (λ (q : List ℕ). sum q && (not (some (has_id (id q)) (b ∷ l)) && are_requests (b ∷ l))) e
    ∙ ap (λ (q : List ℕ). sum b' && (not (some (has_id (id b')) (q ∷ l)) && are_requests (q ∷ l))) g
    ∙ turned (sum b') (sum a') (has_id (id b') a') (some (has_id (id b')) l) (some (has_id (id a')) l) (are_requests l)
    ∙ ap (λ (x : Bool). sum a' && (not (x || some (has_id (id a')) l) && are_requests (b' ∷ l))) (id_sym b' a')
requests_order (Permᴰ.trans d e) = requests_order d ∙ requests_order e

module _ (i : List ℕ) where
  -- the first with an identifier, from the front
  found : (q : List ℕ) (qs : List (List ℕ)) → request_of i (q ∷ qs) ≡ cond (has_id i q) q (request_of i qs)
  unfolding request_of
  found q qs = go (has_id i q)
    where
      go : (b : Bool) → get_or (q ∷ qs) (cond b 0 (suc (place (has_id i) qs))) [] ≡ cond b q (get_or qs (place (has_id i) qs) [])
      go true = refl
      go false = refl

  -- two that have it have the same
  twins : (p q : List ℕ) → has_id i p ≡ true → has_id i q ≡ true → has_id (id p) q ≡ true
  unfolding has_id
  twins p q e f =
      ap (λ (x : List ℕ). same x (id p)) (same_true (id q) i f ∙ sym (same_true (id p) i e)) ∙ same_refl (id p)

  apart : (p q : List ℕ) (r : List ℕ) → has_id (id p) q ≡ false → cond (has_id i p) p (cond (has_id i q) q r) ≡ cond (has_id i q) q (cond (has_id i p) p r)
  apart p q r n = go (has_id i p) (has_id i q) refl refl
    where
      go : (x y : Bool) → has_id i p ≡ x → has_id i q ≡ y → cond x p (cond y q r) ≡ cond y q (cond x p r)
      go true true e f = absurd (false≢true (sym n ∙ twins p q e f))
      go true false e f = refl
      go false true e f = refl
      go false false e f = refl

  no_or : (x y : Bool) → not (x || y) ≡ true → x ≡ false
  no_or false y e = refl
  no_or true y e = absurd (false≢true e)

  pub request_order : {rs rs' : List (List ℕ)} → Reordered rs rs' → are_requests rs ≡ true → request_of i rs ≡ request_of i rs'
  unfolding are_requests
  request_order Permᴰ.nil r = refl
  request_order (Permᴰ.cons {a = a} {b = b} {l₁ = l₁} {l₂ = l₂} e d) r =
      let h = both (sum a) _ r in
      let k = both (not (some (has_id (id a)) l₁)) (are_requests l₁) h.1 in
      found a l₁
      ∙ ap (λ (q : List ℕ). cond (has_id i q) q (request_of i l₁)) e
      ∙ ap (λ (q : List ℕ). cond (has_id i b) b q) (request_order d k.1)
      ∙ sym (found b l₂)
  request_order (Permᴰ.swap {a = a} {b = b} {a' = a'} {b' = b'} {l = l} e g) r =
      let h = both (sum a) _ r in
      let k = both (not (has_id (id a) b || some (has_id (id a)) l)) _ h.1 in
      let n = no_or (has_id (id a) b) (some (has_id (id a)) l) k.0 in
      found a (b ∷ l)
      ∙ ap (λ (q : List ℕ). cond (has_id i a) a q) (found b l)
      ∙ apart a b (request_of i l) n
      ∙ ap (λ (q : List ℕ). cond (has_id i q) q (cond (has_id i a) a (request_of i l))) g
      ∙ ap (λ (q : List ℕ). cond (has_id i a') a' (cond (has_id i q) q (request_of i l))) e
      ∙ ap (λ (q : List ℕ). cond (has_id i a') a' q) (sym (found b' l))
      ∙ sym (found a' (b' ∷ l))
  request_order (Permᴰ.trans d e) r = request_order d r ∙ request_order e (sym (requests_order d) ∙ r)
