-- What stands beside the number of a closing: the verdict's, and where it was refused kind 0, the five numbers at 0, and spaces.
-- Assumes nothing.
use mathlib.Core.Path.{◌≡◌, refl}
use mathlib.Core.Bool.{Bool, true, false, cond}
use mathlib.Core.List.{List}
use Prim.Native.Nat.{ℕ}
use lib.Dec.{eqb}
use Rattle.lent.specs.Lent.{Outcome, Lent, by}
use Rattle.lent.specs.declared.Refusal.TheVariants as refusal
use Rattle.std.proofs.Common.{Ok, Err}
use Rattle.frame.specs.Verdict.{overflows, verdict, overflow, given}
use Rattle.frame.specs.Machine.{closing}
use Rattle.frame.specs.declared.Closing.{Closing}
use Rattle.kinds.specs.Codes.{rules}
use Rattle.judge.specs.declared.Session.{Session}
use Rattle.judge.specs.Session.{in_range, no_closing, or_no_closing, closing_of, closed_as, closed_of, whole_refused, judged_of}

-- of a verdict, overflow or not
of_verdict : (o : Bool) (c : Closing) → or_no_closing (closing_of (cond o overflow (given c))) ≡ (cond o overflow (given c)).closing
of_verdict true c = refl
of_verdict false c = refl

-- of the verdict on a message
pub verdict_beside : (l : Lent) (t m : List ℕ) → or_no_closing (closing_of (verdict (rules l) t m)) ≡ (verdict (rules l) t m).closing
unfolding verdict
verdict_beside l t m = of_verdict (overflows (rules l) t m) _

-- closing a session
pub closed_beside : (s : Session) → or_no_closing (closed_of s).closing ≡ cond (in_range s) (closing s.tally).closing no_closing
unfolding closed_of closing
closed_beside s = go (in_range s)
  where
    go : (b : Bool)
        → or_no_closing (cond b (closed_as (closing s.tally)) (record { closing = Err refusal.Session; next = s })).closing
        ≡ cond b (closing s.tally).closing no_closing
    go true = of_verdict (eqb s.tally.phase 4) _
    go false = refl

-- judging a whole message
pub judged_beside : (l : Lent) (t m : List ℕ) → or_no_closing (judged_of l t m) ≡ by (whole_refused l t) (verdict (rules l) t m).closing (λ r. no_closing)
unfolding judged_of
judged_beside l t m = go (whole_refused l t)
  where
    go : (o : Outcome)
        → or_no_closing (by o (closing_of (verdict (rules l) t m)) Err) ≡ by o (verdict (rules l) t m).closing (λ r. no_closing)
    go (Ok u) = verdict_beside l t m
    go (Err r) = refl
