-- Judging and the standing answer, outcome by outcome.
-- Assumes nothing.
use mathlib.Core.Path.{◌≡◌, refl, sym, ap, ◌∙◌}
use mathlib.Core.Bool.{Bool, true, false, cond}
use mathlib.Core.List.{List, []}
use Prim.Native.Nat.{ℕ, ◌/◌, ◌≤◌, ◌<◌}
use native.Mathlib.Omega.{arith}
use lib.Dec.{eqb}
use lib.ListN.{length, get_or, drop}
use borrow.Author.Tests.{le-leb, lt-leb}
use Rattle.std.specs.Prelude.{Result, Ok, Err, Option, Some, None, position}
use Rattle.std.specs.Simd.{first_chunks}
use Rattle.base.specs.Bytes.{field}
use Rattle.base.specs.Groups.{some, place}
use Rattle.base.proofs.Chunks.{position_none, position_found}
use Rattle.base.proofs.Groups.{length_groups, some_within}
use Rattle.digits.specs.Digits.{number_of}
use Rattle.calendar.specs.Calendar.{is_date}
use Rattle.lent.specs.declared.Refusal.{Refusal}
use Rattle.lent.specs.declared.Refusal.TheVariants as refusal
use Rattle.lent.specs.Lent.{Outcome, outcome_number, by}
use Rattle.requests.specs.Requests.{requests_of, has_id, is_request_list, is_asked, request_of}
use Rattle.requests.proofs.Found.{unasked, asked, lent_whole}
use Rattle.answers.specs.Fedjel.{item_count, item_bytes, items_of, is_fedjel}
use Rattle.answers.specs.Answers.{answer_of, rightly, table_after}
use Rattle.answers.proofs.Form.{counted, answer_in}
use Rattle.cover.specs.Codes.{message_code}
use Rattle.cover.specs.Judging.{lent_refused, judged, table_by, JudgedAs, is_answered, place_of, standing_of}
use Rattle.cover.specs.declared.Judged.{Judged}
use Rattle.cover.specs.declared.Standing.{Standing}

module _ (e : ℕ) (l m : List ℕ) where
  module _ (t : List ℕ) where
    pub refused_as : {r : Refusal} → lent_refused e l m ≡ Err r → JudgedAs e l m t (Err r) t
    unfolding judged table_by
    refused_as d = record { result = simp d; table = simp d }

    module _ (d : lent_refused e l m ≡ Ok (tt {0})) where
      pub no_room : length t < item_count m → JudgedAs e l m t (Err refusal.Room) t
      unfolding judged table_by
      no_room h =
          let f = lt-leb (item_count m) (length t) h in
          record { result = simp (d, f); table = simp (d, f) }

      pub done : item_count m ≤ length t → {c n : ℕ} {t' : List ℕ} → c ≡ message_code e (requests_of l) m → n ≡ item_count m
          → t' ≡ table_after (requests_of l) (items_of m) t → JudgedAs e l m t (Ok (record { code = c; items = n })) t'
      unfolding judged table_by
      done h {c} {n} {t'} p q r =
          let f = le-leb (item_count m) (length t) h in
          let s : ◌≡◌ {A = Result Judged Refusal}
          (Ok (record { code = c; items = n }))
          (Ok (record { code = message_code e (requests_of l) m; items = item_count m })) =
          ap (λ (x : ℕ). Ok (record { code = x; items = n })) p ∙ ap (λ (x : ℕ). Ok (record { code = message_code e (requests_of l) m; items = x })) q in
          record { result = s ∙ simp (d, f); table = r ∙ simp (d, f) }

  module _ (id : List ℕ) where
    pub none_refused : {r : Refusal} → lent_refused e l m ≡ Err r → Err r ≡ standing_of e l m id
    unfolding standing_of
    none_refused d = simp d

    module _ (d : lent_refused e l m ≡ Ok (tt {0})) where
      abbrev q : List ℕ
      q = request_of id (requests_of l)

      by_answered : cond (is_answered e l m id)
          (Ok (record {
            place = place_of e l m id;
            answer = answer_of (get_or (items_of m) (place_of e l m id) []);
            sum = number_of (field 50 65 q);
          }))
          (Err refusal.Standing)
          ≡ standing_of e l m id
      unfolding standing_of
      by_answered = simp d

      module _ {f : Option ℕ} (p : f ≡ position (has_id id) (requests_of l)) where
        pub not_asked : f ≡ None → Err refusal.Standing ≡ standing_of e l m id
        unfolding is_answered
        not_asked n =
            let a : is_asked id (requests_of l) ≡ false = unasked l id p n in
            simp a at by_answered

        module _ {j : ℕ} (s : f ≡ Some j) {qs : List (List ℕ)} (cut : qs ≡ first_chunks 65 (length l / 65) l) where
          a : is_asked id (requests_of l) ≡ true
          a = asked l id p s

          -- the request, as code lends it
          abbrev own : List ℕ
          own = get_or qs j []

          is_own : own ≡ q
          is_own = ap (λ (x : List (List ℕ)). get_or x j []) cut ∙ sym (lent_whole l id p s)

          pub not_good : eqb (message_code e (requests_of l) m) 0 ≡ false → Err refusal.Standing ≡ standing_of e l m id
          unfolding is_answered
          not_good g = simp (a, g) at by_answered

          module _ (g : eqb (message_code e (requests_of l) m) 0 ≡ true) {r : Option ℕ} (c : r ≡ position (rightly own) (items_of m)) where
            c' : r ≡ position (rightly q) (items_of m)
            c' = c ∙ ap (λ (x : List ℕ). position (rightly x) (items_of m)) is_own

            pub unanswered : r ≡ None → Err refusal.Standing ≡ standing_of e l m id
            unfolding is_answered
            unanswered n =
                let s : some (rightly q) (items_of m) ≡ false = position_none (rightly q) (items_of m) c' n in
                simp (a, g, s) at by_answered

            module _ {k : ℕ} (t : r ≡ Some k) where
              at_place : (some (rightly q) (items_of m) ≡ true) × (k ≡ place (rightly q) (items_of m))
              at_place = position_found (rightly q) (items_of m) c' t

              pub inside : k < item_count m
              inside =
                  omega (arith, at_place.1, some_within (rightly q) (items_of m) at_place.0, length_groups 72 70 (item_count m) (drop 34 m))

              pub inside_items : {b : List ℕ} → b ≡ item_bytes m → k < length b / 72
              inside_items u = omega (arith, inside, ap (λ (x : List ℕ). length x / 72) u ∙ counted m)

              pub stands : {b : List ℕ} → b ≡ item_bytes m → {is : List (List ℕ)} → is ≡ first_chunks 72 (length b / 72) b
                  → {y : ℕ} → y ≡ number_of (field 50 65 own)
                  → Ok (record { place = k; answer = get_or (get_or is k []) 67 0; sum = y }) ≡ standing_of e l m id
              unfolding is_answered
              stands {b} u {is} o {y} v =
                  let x = get_or (get_or is k []) 67 0 in
                  let s : some (rightly q) (items_of m) ≡ true = at_place.0 in
                  let w : x ≡ answer_of (get_or (items_of m) (place_of e l m id) []) =
                  answer_in m u o k inside ∙ ap (λ (i : ℕ). answer_of (get_or (items_of m) i [])) at_place.1 in
                  let z : y ≡ number_of (field 50 65 q) =
                  v ∙ ap (λ (r : List ℕ). number_of (field 50 65 r)) is_own in
                  ap (λ (i : ℕ). Ok (record { place = i; answer = x; sum = y })) at_place.1
                  ∙ ap (λ (i : ℕ). Ok (record { place = place_of e l m id; answer = i; sum = y })) w
                  ∙ ap
                  (λ (i : ℕ). Ok (record { place = place_of e l m id; answer = answer_of (get_or (items_of m) (place_of e l m id) []); sum = i }))
                  z
                  ∙ (simp (a, g, s) at by_answered)

-- an answer that stands: nothing was refused, the request is answered, and what is told of it
pub record Stood (e : ℕ) (l m id : List ℕ) (s : Standing) : Type 0 where
  pub granted : lent_refused e l m ≡ Ok (tt {0})
  pub answered : is_answered e l m id ≡ true
  pub place : s.place ≡ place_of e l m id
  pub answer : s.answer ≡ answer_of (get_or (items_of m) (place_of e l m id) [])
  pub sum : s.sum ≡ number_of (field 50 65 (request_of id (requests_of l)))

pub stood_so : (e : ℕ) (l m id : List ℕ) {s : Standing} → standing_of e l m id ≡ Ok s → Stood e l m id s
unfolding standing_of
stood_so e l m id {s} q = go (lent_refused e l m) (is_answered e l m id) refl refl q
  where
    told : Standing
    told =
        record {
          place = place_of e l m id;
          answer = answer_of (get_or (items_of m) (place_of e l m id) []);
          sum = number_of (field 50 65 (request_of id (requests_of l)));
        }

    by_told : lent_refused e l m ≡ Ok (tt {0}) → is_answered e l m id ≡ true → told ≡ s → Stood e l m id s
    by_told d b t =
        record {
          granted = d;
          answered = b;
          place = sym (ap (λ (z : Standing). z.place) t);
          answer = sym (ap (λ (z : Standing). z.answer) t);
          sum = sym (ap (λ (z : Standing). z.sum) t);
        }

    go : (o : Outcome) (b : Bool) → lent_refused e l m ≡ o → is_answered e l m id ≡ b → by o (cond b (Ok told) (Err refusal.Standing)) Err ≡ Ok s
        → Stood e l m id s
    go (Ok u) true d b t = by_told d b (cc t)
    go (Ok u) false d b t = cc t
    go (Err r) b d f t = cc t

-- what is not refused has a day
pub dated : (e : ℕ) (l m : List ℕ) → lent_refused e l m ≡ Ok (tt {0}) → is_date e ≡ true
unfolding lent_refused
dated e l m d = go (is_date e) d
  where
    go : (a : Bool)
        → cond a (cond (is_request_list l) (cond (is_fedjel m) (Ok (tt {0})) (Err refusal.Fedjel)) (Err refusal.RequestList)) (Err refusal.NotADay)
        ≡ Ok (tt {0})
        → a ≡ true
    go true d = refl
    go false d = absurd (omega (arith, ap outcome_number d))
