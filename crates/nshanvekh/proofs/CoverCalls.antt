-- The calls for cover answers: a wrong size, else what judging and writing tell.
-- Assumes nothing.
use mathlib.Core.Path.{◌≡◌, ap, ◌∙◌}
use mathlib.Core.List.{List}
use Prim.Native.Nat.{ℕ}
use lib.ListN.{length}
use borrow.Author.Tests.{eq-eqb, ne_eqb}
use Rattle.lent.specs.Lent.{Outcome, outcome_number}
use Rattle.std.proofs.Common.{Result}
use Rattle.lent.specs.declared.Refusal.{Refusal}
use Rattle.cover.specs.declared.Judged.{Judged}
use Rattle.cover.specs.Judging.{JudgedAs}
use Rattle.nshanvekh.specs.Session.{told}
use Rattle.status.specs.declared.reply.Particulars.{Particulars}
use Rattle.status.specs.CoverStatus.{fedsta_outcome, fedsta_output, WroteAs}
use Rattle.nshanvekh.specs.Message.{particulars_of}
use Rattle.nshanvekh.specs.Covers.{fedjel_numbers, FedjelTold, FedjelAs, is_yes, FedstaAs}

module _ {m : List ℕ} {e : ℕ} {l t ns : List ℕ} where
  pub fedjel_wrong : (length ns ≡ 2 → ⊥) → FedjelAs m e l t ns 99 t ns
  fedjel_wrong h =
      let q = ne_eqb (length ns) 2 h in
      record { answer = rw q; table = rw q; numbers = rw q }

  pub fedjel_told : length ns ≡ 2 → {a : Result Judged Refusal} {t' : List ℕ} → JudgedAs e l m t a t' → {r : ℕ} {ns' : List ℕ} → FedjelTold a ns r ns'
      → FedjelAs m e l t ns r t' ns'
  fedjel_told h w o =
      let q = eq-eqb (length ns) 2 h in
      record {
        answer = rw q (o.answer ∙ ap (λ (y : Result Judged Refusal). outcome_number y) w.result);
        table = rw q w.table;
        numbers = rw q (o.numbers ∙ ap (λ (y : Result Judged Refusal). told y fedjel_numbers ns) w.result);
      }

module _ {m : List ℕ} {e : ℕ} {l id : List ℕ} {cover d n t count : ℕ} {out : List ℕ} where
  pub fedsta_wrong : (length id ≡ 25 → ⊥) → FedstaAs m e l id cover d n t count out 99 out
  fedsta_wrong h =
      let q = ne_eqb (length id) 25 h in
      record { answer = rw q; bytes = rw q }

  pub fedsta_told : length id ≡ 25 → {p : Particulars} → p ≡ particulars_of d n t → {own : List ℕ} → own ≡ id
      → {o : Outcome} {out' : List ℕ} → WroteAs e l m own (is_yes cover) p count out o out' → {r : ℕ} → r ≡ outcome_number o
      → FedstaAs m e l id cover d n t count out r out'
  fedsta_told h {p} u {own} i w g =
      let q = eq-eqb (length id) 25 h in
      let c = is_yes cover in
      record {
        answer = rw q (g ∙ ap outcome_number w.result
            ∙ ap (λ (y : List ℕ). outcome_number (fedsta_outcome e l m y c p count out)) i
            ∙ ap (λ (y : Particulars). outcome_number (fedsta_outcome e l m id c y count out)) u);
        bytes = rw q (w.bytes ∙ ap (λ (y : List ℕ). fedsta_output e l m y c p count out) i
            ∙ ap (λ (y : Particulars). fedsta_output e l m id c y count out) u);
      }
