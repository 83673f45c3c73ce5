-- The calls over a whole message and over a STATUS: a buffer of a wrong size, and what the judge, the writer and the reader give.
-- Assumes nothing.
use mathlib.Core.Path.{◌≡◌, ap, ◌∙◌}
use mathlib.Core.Bool.{true, false}
use mathlib.Core.List.{List}
use Prim.Native.Nat.{ℕ}
use lib.Dec.{eqb}
use lib.ListN.{length}
use borrow.Author.Tests.{eq-eqb, ne_eqb, eqb-true}
use Rattle.base.proofs.Every.{both}
use Rattle.lent.specs.Lent.{Lent, outcome_number}
use Rattle.std.proofs.Common.{Result}
use Rattle.lent.specs.declared.Refusal.{Refusal}
use Rattle.frame.specs.declared.Closing.{Closing}
use Rattle.frame.specs.declared.Status.{Status}
use Rattle.judge.specs.Session.{JudgedAs}
use Rattle.status.specs.declared.reply.Particulars.{Particulars}
use Rattle.status.specs.Reply.{answer as answer_of, output, Replied}
use Rattle.reading.specs.Reading.{ReadAs}
use Rattle.nshanvekh.specs.Session.{told, closing_numbers, closing_id, ClosingTold}
use Rattle.nshanvekh.specs.Message.{
  sized_both,
  JudgedNumbers,
  reply_numbers,
  particulars_of,
  ReplyTold,
  RepliedAs,
  status_numbers,
  status_id,
  StatusTold,
  StatusAs,
}

-- numbers and identifier of the sizes that a call asks for
pub sizes : (ns : List ℕ) (k : ℕ) (id : List ℕ) → sized_both ns k id ≡ true → (length ns ≡ k) × (length id ≡ 25)
sizes ns k id f =
    let h = both (eqb (length ns) k) _ f in
    (eqb-true (length ns) k h.0, eqb-true (length id) 25 h.1)

module _ {m : List ℕ} {l : Lent} {t ns id : List ℕ} where
  pub judge_wrong : sized_both ns 7 id ≡ false → JudgedNumbers m l t ns id 99 t ns id
  judge_wrong f = record { answer = rw f; table = rw f; numbers = rw f; identifier = rw f }

  pub judge_told : sized_both ns 7 id ≡ true → {j : Result Closing Refusal} {t' : List ℕ} → JudgedAs l t m j t'
      → {r : ℕ} {ns' id' : List ℕ} → ClosingTold j ns id r ns' id' → JudgedNumbers m l t ns id r t' ns' id'
  judge_told f {j} w {r} o =
      record {
        answer = rw f (o.answer ∙ ap (λ (y : Result Closing Refusal). outcome_number y) w.result);
        table = rw f w.bytes;
        numbers = rw f (o.numbers ∙ ap (λ (y : Result Closing Refusal). told y closing_numbers ns) w.result);
        identifier = rw f (o.identifier ∙ ap (λ (y : Result Closing Refusal). told y closing_id id) w.result);
      }

module _ {m : List ℕ} {l : Lent} {d n t : ℕ} {out ns : List ℕ} where
  pub reply_wrong : (length ns ≡ 1 → ⊥) → RepliedAs m l d n t out ns 99 out ns
  reply_wrong h =
      let q = ne_eqb (length ns) 1 h in
      record { answer = rw q; bytes = rw q; numbers = rw q }

  pub reply_told : length ns ≡ 1 → {p : Particulars} → p ≡ particulars_of d n t → {a : Result ℕ Refusal} {out' : List ℕ} → Replied l m p out a out'
      → {r : ℕ} {ns' : List ℕ} → ReplyTold a ns r ns' → RepliedAs m l d n t out ns r out' ns'
  reply_told h {p} e {a} w o =
      let q = eq-eqb (length ns) 1 h in
      let k : a ≡ answer_of l m (particulars_of d n t) out = w.result ∙ ap (λ (x : Particulars). answer_of l m x out) e in
      record {
        answer = rw q (o.answer ∙ ap (λ (y : Result ℕ Refusal). outcome_number y) k);
        bytes = rw q (w.bytes ∙ ap (λ (x : Particulars). output l m x out) e);
        numbers = rw q (o.numbers ∙ ap (λ (y : Result ℕ Refusal). told y reply_numbers ns) k);
      }

module _ {x t ns id : List ℕ} where
  pub status_wrong : sized_both ns 10 id ≡ false → StatusAs x t ns id 99 t ns id
  status_wrong f = record { answer = rw f; table = rw f; numbers = rw f; identifier = rw f }

  pub status_told : sized_both ns 10 id ≡ true → {y : Result Status Refusal} {t' : List ℕ} → ReadAs x t y t'
      → {r : ℕ} {ns' id' : List ℕ} → StatusTold y ns id r ns' id' → StatusAs x t ns id r t' ns' id'
  status_told f {y} w {r} o =
      record {
        answer = rw f (o.answer ∙ ap (λ (z : Result Status Refusal). outcome_number z) w.result);
        table = rw f w.bytes;
        numbers = rw f (o.numbers ∙ ap (λ (z : Result Status Refusal). told z status_numbers ns) w.result);
        identifier = rw f (o.identifier ∙ ap (λ (z : Result Status Refusal). told z status_id id) w.result);
      }
