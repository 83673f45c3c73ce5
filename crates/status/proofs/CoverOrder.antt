-- The order of the request list changes neither what writing a FEDSTA answers nor a byte of its output (02 #103).
-- Assumes nothing.
use mathlib.Core.Path.{◌≡◌, ap}
use mathlib.Core.Bool.{Bool, cond, not, ◌&&◌}
use mathlib.Core.List.{List, []}
use Prim.Native.Nat.{ℕ}
use lib.Dec.{leb}
use lib.ListN.{length}
use Rattle.std.specs.Prelude.{Result, Ok, Err}
use Rattle.base.specs.Bytes.{over}
use Rattle.base.specs.Order.{Reordered}
use Rattle.lent.specs.Lent.{Outcome, by}
use Rattle.lent.specs.declared.Refusal.TheVariants as refusal
use Rattle.lent.specs.declared.Refusal.{Refusal}
use Rattle.requests.specs.Requests.{requests_of}
use Rattle.cover.specs.Judging.{stood}
use Rattle.cover.specs.declared.Standing.{Standing}
use Rattle.cover.proofs.Order.{standing_order}
use Rattle.status.specs.declared.reply.Particulars.{Particulars}
use Rattle.status.specs.CoverStatus.{fedsta_bytes, is_covered, cover_said, are_cover_particulars, fedsta, fedsta_outcome, fedsta_output}

module _ (e : ℕ) (m l l' : List ℕ) (n : length l ≡ length l') (o : Reordered (requests_of l) (requests_of l'))
    (id : List ℕ) (covers : Bool) (p : Particulars) (count : ℕ) (out : List ℕ) where
  -- both go by the standing answer alone
  abbrev outcome : Result Standing Refusal → Outcome
  outcome s =
      stood s
      (λ x. cond (is_covered x.answer && not covers)
      (Err refusal.Standing)
      (cond (are_cover_particulars p count) (cond (leb 104 (length out)) (Ok (tt {0})) (Err refusal.Room)) (Err refusal.Particulars)))
      Err

  abbrev bytes : Result Standing Refusal → List ℕ
  bytes s = stood s (λ x. fedsta_bytes (cover_said e id p count x.answer x.sum)) (λ r. [])

  pub record SameFedsta : Type 0 where
    pub answer : fedsta_outcome e l m id covers p count out ≡ fedsta_outcome e l' m id covers p count out
    pub output : fedsta_output e l m id covers p count out ≡ fedsta_output e l' m id covers p count out

  pub fedsta_order : SameFedsta
  unfolding fedsta_output fedsta_outcome fedsta
  fedsta_order =
      let s = standing_order e m l l' n o id in
      record { answer = ap outcome s; output = ap (λ (x : Result Standing Refusal). by (outcome x) (over out 0 (bytes x)) (λ r. out)) s }
