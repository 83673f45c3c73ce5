-- The order of the request list changes no answer (02 #103): neither judging's, nor a byte of its table, nor which answer stands.
-- Assumes nothing.
use mathlib.Core.Path.{◌≡◌, refl, ap, ◌∙◌}
use mathlib.Core.Bool.{Bool, true, false, cond, not, ◌&&◌}
use mathlib.Core.List.{List, []}
use Prim.Native.Nat.{ℕ, ◌%◌}
use lib.Dec.{leb, eqb}
use Rattle.std.specs.Prelude.{Result, Ok, Err}
use lib.ListN.{length, get_or, take}
use Rattle.base.specs.Bytes.{field, over}
use Rattle.base.specs.Groups.{some, place}
use Rattle.base.specs.Order.{Reordered}
use Rattle.base.proofs.Order.{some_order}
use Rattle.digits.specs.Digits.{number_of}
use Rattle.calendar.specs.Calendar.{is_date}
use Rattle.lent.specs.Lent.{Outcome, by}
use Rattle.lent.specs.declared.Refusal.{Refusal}
use Rattle.lent.specs.declared.Refusal.TheVariants as refusal
use Rattle.requests.specs.Requests.{requests_of, has_id, keeps, are_requests, is_request_list, is_asked, request_of}
use Rattle.requests.proofs.Order.{requests_order, request_order}
use Rattle.answers.specs.Fedjel.{item_count, head_of, items_of, is_fedjel}
use Rattle.answers.specs.Answers.{answer_of, rightly, is_faulty}
use Rattle.answers.proofs.Order.{codes_order}
use Rattle.cover.specs.Head.{head_rows}
use Rattle.cover.specs.Codes.{message_rows, code_with, message_code}
use Rattle.cover.specs.Judging.{lent_refused, judged, table_by, is_answered, standing_of}
use Rattle.cover.specs.declared.Standing.{Standing}

-- the message code sees the requests by the head's bank and by the items' codes
head_order : (e : ℕ) (h : List ℕ) {rs rs' : List (List ℕ)} → Reordered rs rs' → head_rows e rs h ≡ head_rows e rs' h
unfolding head_rows
head_order e h o = simp (some_order (keeps (field 10 12 h)) o)

code_with_order : (f : Bool) (e : ℕ) (m : List ℕ) {rs rs' : List (List ℕ)} → Reordered rs rs' → code_with f e rs m ≡ code_with f e rs' m
unfolding code_with message_rows
code_with_order f e m o = simp (head_order e (head_of m) o)

module _ (e : ℕ) (m : List ℕ) {rs rs' : List (List ℕ)} (o : Reordered rs rs') (r : are_requests rs ≡ true) where
  faulty_order : is_faulty rs (items_of m) ≡ is_faulty rs' (items_of m)
  faulty_order = ap (some (λ c. not (eqb c 0))) (codes_order o r (items_of m))

  message_order : message_code e rs m ≡ message_code e rs' m
  message_order =
      ap (λ (f : Bool). code_with f e rs m) faulty_order ∙ code_with_order (is_faulty rs' (items_of m)) e m o

-- two lists of as many bytes, the requests of the one those of the other in some order
module _ (e : ℕ) (m l l' : List ℕ) (n : length l ≡ length l') (o : Reordered (requests_of l) (requests_of l')) where
  list_order : is_request_list l ≡ is_request_list l'
  unfolding is_request_list
  list_order = ap (λ (i : ℕ). eqb (i % 65) 0 && are_requests (requests_of l)) n ∙ ap (λ (b : Bool). eqb (length l' % 65) 0 && b) (requests_order o)

  -- what is refused, by whether the list is one
  abbrev refused_by : Bool → Outcome
  refused_by b = cond (is_date e) (cond b (cond (is_fedjel m) (Ok (tt {0})) (Err refusal.Fedjel)) (Err refusal.RequestList)) (Err refusal.NotADay)

  lent_order : lent_refused e l m ≡ lent_refused e l' m
  unfolding lent_refused
  lent_order = ap refused_by list_order

  -- a list that isn't one is refused before anything else is made of it
  refused_first : {A : Type 0} (x y : A) (f : Refusal → A) → by (refused_by false) x f ≡ by (refused_by false) y f
  refused_first {A} x y f = go (is_date e)
    where
      go : (d : Bool)
          → by (cond d (Err refusal.RequestList) (Err refusal.NotADay)) x f
          ≡ by (cond d (Err refusal.RequestList) (Err refusal.NotADay)) y f
      go true = refl
      go false = refl

  either : {A : Type 0} (x y : A) (f : Refusal → A) → (are_requests (requests_of l) ≡ true → x ≡ y)
      → by (lent_refused e l m) x f ≡ by (lent_refused e l' m) y f
  unfolding lent_refused is_request_list
  either {A} x y f g = go (eqb (length l % 65) 0) (are_requests (requests_of l)) refl ∙ ap (λ (t : Outcome). by t y f) lent_order
    where
      go : (a b : Bool) → are_requests (requests_of l) ≡ b → by (refused_by (a && b)) x f ≡ by (refused_by (a && b)) y f
      go a true r = ap (λ (z : A). by (refused_by (a && true)) z f) (g r)
      go true false r = refused_first x y f
      go false false r = refused_first x y f

  pub judged_order : (t : List ℕ) → judged e l m t ≡ judged e l' m t
  unfolding judged
  judged_order t =
      either _ _ Err
      (λ r. ap (λ (c : ℕ). cond (leb (item_count m) (length t)) (Ok (record { code = c; items = item_count m })) (Err refusal.Room)) (message_order e m o r))

  pub table_order : (t : List ℕ) → table_by e l m t ≡ table_by e l' m t
  unfolding table_by
  table_order t =
      either _ _ (λ r. t)
      (λ r. ap (λ (cs : List ℕ). cond (leb (item_count m) (length t)) (over t 0 (take (length t) cs)) t) (codes_order o r (items_of m)))

  pub standing_order : (id : List ℕ) → standing_of e l m id ≡ standing_of e l' m id
  unfolding standing_of is_answered
  standing_order id = either _ _ Err of
    where
      told : Bool → ℕ → List ℕ → Result Standing Refusal
      told a c q =
          cond (a && (eqb c 0 && some (rightly q) (items_of m)))
          (Ok (record {
            place = place (rightly q) (items_of m);
            answer = answer_of (get_or (items_of m) (place (rightly q) (items_of m)) []);
            sum = number_of (field 50 65 q);
          }))
          (Err refusal.Standing)

      of : are_requests (requests_of l) ≡ true
          → told (is_asked id (requests_of l)) (message_code e (requests_of l) m) (request_of id (requests_of l))
          ≡ told (is_asked id (requests_of l')) (message_code e (requests_of l') m) (request_of id (requests_of l'))
      of r =
          ap (λ (a : Bool). told a (message_code e (requests_of l) m) (request_of id (requests_of l))) (some_order (has_id id) o)
          ∙ ap (λ (c : ℕ). told (is_asked id (requests_of l')) c (request_of id (requests_of l))) (message_order e m o r)
          ∙ ap (told (is_asked id (requests_of l')) (message_code e (requests_of l') m)) (request_order id o r)
