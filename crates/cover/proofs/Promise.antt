-- What 02 #103 promises of standing answers: no request has two, and it has one exactly if the message code is 00 and some item answers it
-- rightly; what `standing_to` tells is that item.
-- Assumes nothing.
use mathlib.Core.Path.{◌≡◌, sym, ap, ◌∙◌}
use mathlib.Core.Bool.{true, false, false≢true}
use mathlib.Core.List.{List, []}
use mathlib.Core.Logic.{⊎_elim}
use Prim.Native.Nat.{ℕ, ◌≤◌, ◌<◌}
use native.Mathlib.Omega.{arith}
use lib.Dec.{eqb}
use Rattle.std.specs.Prelude.{Ok}
use lib.ListN.{length, get_or, take, drop}
use lib.Seq.{take-length}
use borrow.Author.Tests.{eqb-true, eq-eqb}
use Rattle.base.specs.Bytes.{field}
use Rattle.base.specs.Groups.{some, place}
use Rattle.base.proofs.Every.{both}
use Rattle.base.proofs.Groups.{length_groups, some_within, place_passes, some_at, none_before}
use Rattle.calendar.proofs.Numbers.{lt_or_le}
use Rattle.requests.specs.Requests.{requests_of, is_asked, request_of}
use Rattle.requests.proofs.Request.{request_id}
use Rattle.answers.specs.Fedjel.{item_count, items_of}
use Rattle.answers.specs.Answers.{rightly, item_code}
use Rattle.answers.proofs.Right.{Right, right_id, zero_right, right_zero, code_at}
use Rattle.cover.specs.Codes.{message_code}
use Rattle.cover.specs.Judging.{is_answered, place_of, standing_of}
use Rattle.cover.specs.Standing.{Stands}
use Rattle.cover.specs.declared.Standing.{Standing}
use Rattle.cover.proofs.Outcomes.{stood_so}

module _ (e : ℕ) (l m id : List ℕ) where
  abbrev rs : List (List ℕ)
  rs = requests_of l

  abbrev its : List (List ℕ)
  its = items_of m

  abbrev q : List ℕ
  q = request_of id rs

  many : length its ≡ item_count m
  many = length_groups 72 70 (item_count m) (drop 34 m)

  -- an item that stands answers the request rightly, and none before it does
  pub record First (k : ℕ) : Type 0 where
    pub asked : is_asked id rs ≡ true
    pub right : rightly q (get_or its k []) ≡ true
    pub first : some (rightly q) (take k its) ≡ false

  stands_first : (k : ℕ) → Stands e l m id k → First k
  stands_first k s =
      let it = get_or its k [] in
      let z : item_code rs (take k its) it ≡ 0 = sym (code_at rs its (length its) k (omega (arith, s.item, many))) ∙ s.right in
      let w = zero_right l (take k its) it z in
      let c = s.carries in
      record {
        asked = ap (λ (i : List ℕ). is_asked i rs) (sym c) ∙ w.asked;
        right = ap (λ (i : List ℕ). rightly (request_of i rs) it) (sym c) ∙ w.right;
        first = ap (λ (i : List ℕ). some (rightly (request_of i rs)) (take k its)) (sym c) ∙ w.first;
      }

  -- no later item stands
  not_later : (k j : ℕ) → Stands e l m id k → Stands e l m id j → k < j → ⊥
  not_later k j s t h =
      let a = some_at (rightly q) its [] k j h (omega (arith, s.item, many)) (stands_first k s).right in
      false≢true (sym (stands_first j t).first ∙ a)

  -- no request has two standing answers
  pub one_at_most : (k j : ℕ) → Stands e l m id k → Stands e l m id j → k ≡ j
  one_at_most k j s t =
      ⊎_elim (λ (h : k < j). absurd (not_later k j s t h))
      (λ (h : j ≤ k). ⊎_elim (λ (i : j < k). absurd (not_later j k t s i)) (λ (i : k ≤ j). omega (arith, h, i)) (lt_or_le j k))
      (lt_or_le k j)

  -- where the message code is 00 and some item answers the request rightly, the first that does stands
  pub answered_stands : is_answered e l m id ≡ true → Stands e l m id (place_of e l m id)
  unfolding is_answered
  answered_stands h =
      let one = both (is_asked id rs) _ h in
      let two = both (eqb (message_code e rs m) 0) _ one.1 in
      let k = place (rightly q) its in
      let it = get_or its k [] in
      let i : k < length its = some_within (rightly q) its two.1 in
      let r : rightly q it ≡ true = place_passes (rightly q) its [] two.1 in
      let c : field 3 27 it ≡ id = right_id q it r ∙ request_id l id one.0 in
      let w : Right l (take k its) it =
      record {
        asked = ap (λ (x : List ℕ). is_asked x rs) c ∙ one.0;
        first = ap (λ (x : List ℕ). some (rightly (request_of x rs)) (take k its)) c ∙ none_before (rightly q) its;
        right = ap (λ (x : List ℕ). rightly (request_of x rs) it) c ∙ r;
      } in
      record {
        item = omega (arith, i, many);
        carries = c;
        right = code_at rs its (length its) k i ∙ right_zero l (take k its) it w;
        good = eqb-true (message_code e rs m) 0 two.0;
      }

  -- an item stands only so
  pub stands_answered : (k : ℕ) → Stands e l m id k → is_answered e l m id ≡ true
  unfolding is_answered
  stands_answered k s =
      let f = stands_first k s in
      let g = eq-eqb (message_code e rs m) 0 s.good in
      let n : k < length its = omega (arith, s.item, many) in
      let a : some (rightly q) its ≡ true =
      ap (some (rightly q)) (sym (take-length its)) ∙ some_at (rightly q) its [] k (length its) n n f.right in
      simp (f.asked, g, a)

  -- what `standing_to` tells is the item that stands
  pub told_stands : {s : Standing} → standing_of e l m id ≡ Ok s → Stands e l m id s.place
  told_stands {s} t =
      let w = stood_so e l m id t in
      let p : s.place ≡ place_of e l m id = w.place in
      rw p (answered_stands w.answered)
