-- The number of judging's answer is that of the first row whose condition holds.
-- Assumes nothing.
use mathlib.Core.Path.{◌≡◌, refl}
use mathlib.Core.Bool.{Bool, true, false, cond, not}
use mathlib.Core.List.{List, [], ◌∷◌}
use Prim.Native.Nat.{ℕ}
use lib.ListN.{length}
use Rattle.std.specs.Prelude.{Ok, Err}
use lib.Dec.{leb}
use Rattle.base.specs.Tables.{first_given}
use Rattle.calendar.specs.Calendar.{is_date}
use Rattle.lent.specs.Lent.{outcome_number, by}
use Rattle.lent.specs.declared.Refusal.TheVariants as refusal
use Rattle.requests.specs.Requests.{requests_of, is_request_list}
use Rattle.answers.specs.Fedjel.{item_count, is_fedjel}
use Rattle.cover.specs.Codes.{message_code}
use Rattle.cover.specs.declared.Judged.{Judged}
use Rattle.cover.specs.Judging.{lent_refused, judged}
use Rattle.cover.specs.Refusals.{judge_refusals}

-- judging: 1, 11, 12, 9
pub judging : (e : ℕ) (l m t : List ℕ) → outcome_number (judged e l m t) ≡ first_given (judge_refusals e l m t)
unfolding judged lent_refused
judging e l m t = go (is_date e) (is_request_list l) (is_fedjel m) (leb (item_count m) (length t))
  where
    a : Judged
    a = record { code = message_code e (requests_of l) m; items = item_count m }

    go : (d r f s : Bool)
        → outcome_number (by (cond d (cond r (cond f (Ok (tt {0})) (Err refusal.Fedjel)) (Err refusal.RequestList)) (Err refusal.NotADay))
        (cond s (Ok a) (Err refusal.Room))
        Err)
        ≡ first_given ((1, not d) ∷ (11, not r) ∷ (12, not f) ∷ (9, not s) ∷ [])
    go false r f s = refl
    go true false f s = refl
    go true true false s = refl
    go true true true false = refl
    go true true true true = refl
