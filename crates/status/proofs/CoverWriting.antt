-- A FEDSTA, outcome by outcome, and that its numbers fit their fields.
-- Assumes nothing.
use mathlib.Core.Path.{◌≡◌, ap, ◌∙◌}
use mathlib.Core.Bool.{Bool, true, false, cond, not, ◌&&◌}
use mathlib.Core.List.{List}
use Prim.Native.Nat.{ℕ, ◌^◌, ◌≤◌, ◌<◌}
use native.Mathlib.Omega.{arith}
use lib.Dec.{leb, eqb, lit<}
use lib.ListN.{length}
use Rattle.std.specs.Prelude.{Ok, Err}
use borrow.Author.Tests.{leb-true, le-leb, lt-leb}
use Rattle.base.specs.Bytes.{field, over}
use Rattle.base.proofs.Every.{both}
use Rattle.lent.specs.declared.Refusal.{Refusal}
use Rattle.lent.specs.declared.Refusal.TheVariants as refusal
use Rattle.frame.specs.declared.Status.{Status}
use Rattle.requests.specs.Requests.{requests_of, request_of}
use Rattle.cover.specs.Judging.{standing_of}
use Rattle.cover.specs.declared.Standing.{Standing}
use Rattle.cover.proofs.Sums.{number_small}
use Rattle.cover.proofs.Outcomes.{stood_so, dated}
use Rattle.status.specs.declared.reply.Particulars.{Particulars}
use Rattle.status.specs.Reply.{are_particulars}
use Rattle.status.specs.CoverStatus.{fedsta_bytes, is_covered, state_of, only_if, cover_said, are_cover_particulars}
use Rattle.status.specs.CoverStatus.{fedsta, fedsta_outcome, fedsta_output, WroteAs}
use Rattle.status.specs.Writing.{Countable, Writable}
use Rattle.status.proofs.Bounds.{date_lt, number_lt, time_lt}

state_small : (a : ℕ) → state_of a < 10 ^ 2
unfolding state_of
state_small a = go (is_covered a) (eqb a 0x30) (eqb a 0x39)
  where
    go : (x y z : Bool) → cond x 0 (cond y 98 (cond z 97 50)) < 10 ^ 2
    go true y z = lit< tt
    go false true z = lit< tt
    go false false true = lit< tt
    go false false false = lit< tt

only_small : (b : Bool) (count sum : ℕ) → count < 10 ^ 6 → sum < 10 ^ 16 → Countable (only_if b count sum)
unfolding only_if
only_small true count sum h k = record { count = h; sum = k }
only_small false count sum h k = record { count = lit< tt; sum = lit< tt }

module _ (e : ℕ) (l m id : List ℕ) (covers : Bool) (p : Particulars) (count : ℕ) (out : List ℕ) where
  -- no answer stands
  pub none : {r : Refusal} → standing_of e l m id ≡ Err r → WroteAs e l m id covers p count out (Err r) out
  unfolding fedsta_output fedsta_outcome
  none q = record { result = simp q; bytes = simp q }

  module _ {x : Standing} (q : standing_of e l m id ≡ Ok x) where
    pub no_cover : is_covered x.answer && not covers ≡ true → WroteAs e l m id covers p count out (Err refusal.Standing) out
    unfolding fedsta_output fedsta_outcome
    no_cover c = record { result = simp (q, c); bytes = simp (q, c) }

    module _ (c : is_covered x.answer && not covers ≡ false) where
      pub unparticular : are_cover_particulars p count ≡ false → WroteAs e l m id covers p count out (Err refusal.Particulars) out
      unfolding fedsta_output fedsta_outcome
      unparticular f = record { result = simp (q, c, f); bytes = simp (q, c, f) }

      module _ (f : are_cover_particulars p count ≡ true) where
        pub no_room : length out < 104 → WroteAs e l m id covers p count out (Err refusal.Room) out
        unfolding fedsta_output fedsta_outcome
        no_room h =
            let g = lt-leb 104 (length out) h in
            record { result = simp (q, c, f, g); bytes = simp (q, c, f, g) }

        module _ {t : Status} (u : t ≡ cover_said e id p count x.answer x.sum) where
          pub wrote : 104 ≤ length out → {out' : List ℕ} → out' ≡ over out 0 (fedsta_bytes t) → WroteAs e l m id covers p count out (Ok (tt {0})) out'
          unfolding fedsta_output fedsta_outcome fedsta
          wrote h v =
              let g = le-leb 104 (length out) h in
              record { result = simp (q, c, f, g); bytes = v ∙ ap (λ (y : Status). over out 0 (fedsta_bytes y)) u ∙ simp (q, c, f, g) }

          pub writable : Writable t
          unfolding cover_said are_cover_particulars
          writable =
              let z = stood_so e l m id q in
              let b = both (are_particulars p) (leb count 999999) f in
              let n = leb-true count 999999 b.1 in
              let y : x.sum < 10 ^ 16 = omega (arith, z.sum, number_small (field 50 65 (request_of id (requests_of l)))) in
              rw u
              (record {
                date = date_lt e (dated e l m z.granted);
                number = number_lt p b.0;
                time = time_lt p b.0;
                code = state_small x.answer;
                accepted = only_small (is_covered x.answer) count x.sum (omega (arith, n)) y;
                refused = only_small (not (is_covered x.answer)) count x.sum (omega (arith, n)) y;
              })
