-- The number of each call's outcome is that of its first row whose condition holds.
-- Assumes nothing.
use mathlib.Core.Path.{◌≡◌, refl, ap, ◌∙◌}
use mathlib.Core.Bool.{Bool, true, false, cond, not}
use mathlib.Core.List.{List, [], ◌∷◌, ◌++◌}
use Prim.Native.Nat.{ℕ, ◌≤◌}
use lib.ListN.{length}
use lib.Dec.{leb, eqb}
use Rattle.base.specs.Tables.{first_given}
use Rattle.base.proofs.Tables.{ByRows, asked}
use Rattle.calendar.specs.Calendar.{is_date}
use Rattle.lent.specs.Lent.{Outcome, Lists, Lent, outcome_number, list_refused, by}
use Rattle.lent.specs.Refusals.{list_refusals}
use Rattle.lent.specs.declared.Refusal.TheVariants as refusal
use Rattle.std.proofs.Common.{Ok, Err}
use Rattle.lent.proofs.Refusals.{done, as_tested, after_lists}
use Rattle.frame.specs.Verdict.{overflows, verdict, overflow, given}
use Rattle.frame.specs.Machine.{closing, joined}
use Rattle.frame.specs.declared.Closing.{Closing}
use Rattle.kinds.specs.Codes.{rules}
use Rattle.judge.specs.declared.Session.{Session}
use Rattle.judge.specs.declared.Taken.{Taken}
use Rattle.judge.specs.declared.Closed.{Closed}
use Rattle.judge.specs.Session.{
  most,
  longest,
  in_range,
  open_refused,
  opened,
  piece_refused,
  taken,
  parts_refused,
  stepped,
  closing_of,
  closed_as,
  closed_of,
  whole_refused,
  judged_of,
}
use Rattle.judge.specs.Feeding.{fed}
use Rattle.judge.specs.Refusals.{open_refusals, piece_refusals, parts_refusals, close_refusals, whole_refusals}
use Rattle.judge.proofs.Great.{Passing, great}

-- what opening and a piece come to
abbrev outcome : Taken → Outcome
outcome x = x.outcome

-- opening: 1, 4
pub opening : (e : ℕ) (t : List ℕ) → outcome_number (opened e t).outcome ≡ first_given (open_refusals e t)
unfolding opened open_refused
opening e t =
    ap outcome_number (as_tested outcome (open_refused e t) _ _ refl (λ r. refl))
    ∙ (asked (is_date e) (Err refusal.NotADay) (asked (leb (length t) most) (Err refusal.Table) done)).is

-- the tests of a piece
tested : (s : Session) (l : Lists) (t : List ℕ) → ByRows outcome_number (piece_refused s l (length t)) (piece_refusals s l t)
unfolding piece_refused
tested s l t =
    asked (in_range s) (Err refusal.Session) (after_lists Err (λ r. refl) l (asked (eqb (length t) s.room) (Err refusal.Table) done))

-- a piece: 5, 2, 3, 4
pub piece : (s : Session) (p : List ℕ) (l : Lists) (t : List ℕ) → outcome_number (taken s p l t).outcome ≡ first_given (piece_refusals s l t)
unfolding taken
piece s p l t = ap outcome_number (as_tested outcome (piece_refused s l (length t)) _ _ refl (λ r. refl)) ∙ (tested s l t).is

-- a piece, with memory lent for the bytes held: 5, and then as above
pub parts : (s : Session) (p : List ℕ) (l : Lists) (t : List ℕ) → outcome_number (stepped s p l t).outcome ≡ first_given (parts_refusals s l t)
unfolding stepped parts_refused
parts s p l t =
    ap outcome_number (as_tested outcome (parts_refused s l (length t)) _ _ refl (λ r. refl))
    ∙ (asked (eqb (length s.held) longest) (Err refusal.Session) (tested s l t)).is

-- 6 for an overflow, as a verdict has it
told : (o : Bool) (c : Closing) → ByRows outcome_number (closing_of (cond o overflow (given c))) ((6, o) ∷ [])
told true c = record { is = refl }
told false c = record { is = refl }

-- the number of a closing
abbrev closed_number : Closed → ℕ
closed_number c = outcome_number c.closing

-- 6 by the phase of the tally
by_phase : (s : Session) → ByRows closed_number (closed_as (closing s.tally)) ((6, eqb s.tally.phase 4) ∷ [])
unfolding closing
by_phase s = record { is = (told (eqb s.tally.phase 4) _).is }

-- closing: 5, 6
pub close : (s : Session) → outcome_number (closed_of s).closing ≡ first_given (close_refusals s)
unfolding closed_of
close s = (asked (in_range s) _ (by_phase s)).is

-- 6 by the items of the message
by_verdict : (l : Lent) (t m : List ℕ) → ByRows outcome_number (closing_of (verdict (rules l) t m)) ((6, overflows (rules l) t m) ∷ [])
unfolding verdict
by_verdict l t m = record { is = (told (overflows (rules l) t m) _).is }

-- closing after pieces in any cutting: 6 where the whole message has more items before any break than the table has bytes, else nothing is refused
pub close_after : (l : Lent) (t : List ℕ) (ps : List (List ℕ)) → Passing l → length t ≤ most
    → outcome_number (closed_of (fed (opened l.day t).next t l.lists ps).0).closing ≡ first_given ((6, overflows (rules l) t (joined ps)) ∷ [])
close_after l t ps g h = ap closed_number (great l t ps g h).0 ∙ (by_verdict l t (joined ps)).is

-- a whole message: 1, 4, 2, 3, 6
pub whole : (l : Lent) (t m : List ℕ) → outcome_number (judged_of l t m) ≡ first_given (whole_refusals l t m)
unfolding judged_of whole_refused open_refused
whole l t m = go (is_date l.day) (leb (length t) most)
  where
    go : (d h : Bool)
        → outcome_number
        (by
        (by (cond d (cond h (Ok tt) (Err refusal.Table)) (Err refusal.NotADay)) (list_refused l.lists) Err)
        (closing_of (verdict (rules l) t m))
        Err)
        ≡ first_given ((1, not d) ∷ (4, not h) ∷ list_refusals l.lists ++ ((6, overflows (rules l) t m) ∷ []))
    go true true = (after_lists Err (λ r. refl) l.lists (by_verdict l t m)).is
    go true false = refl
    go false h = refl
