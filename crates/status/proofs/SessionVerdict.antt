-- The reply says what closing a session gives, whatever the pieces and the table of the most bytes; its codes are those that the session
-- left there.
-- Assumes nothing.
use mathlib.Core.Path.{◌≡◌, sym, ap, ◌∙◌}
use mathlib.Core.Bool.{Bool, true, false, cond}
use mathlib.Core.List.{List, [], map}
use Prim.Native.Nat.{ℕ}
use native.Mathlib.Omega.{arith}
use lib.ListN.{length, take}
use lib.Dec.{ltb, eqb}
use Rattle.base.specs.Bytes.{field}
use Rattle.std.specs.Prelude.{Result, Ok, Err}
use Rattle.lent.specs.Lent.{Lent}
use Rattle.lent.specs.declared.Refusal.{Refusal}
use Rattle.lent.specs.declared.Refusal.TheVariants as refusal
use Rattle.frame.specs.declared.Closing.{Closing}
use Rattle.frame.specs.Verdict.{Rules, Verdict, found_in, overflows, verdict, table_after}
use Rattle.frame.specs.Machine.{joined}
use Rattle.kinds.specs.Codes.{rules}
use Rattle.judge.specs.declared.Closed.{Closed}
use Rattle.judge.specs.Session.{most, opened, closing_of, closed_of, or_no_closing}
use Rattle.judge.specs.Feeding.{fed}
use Rattle.judge.proofs.Great.{Passing, great}
use Rattle.judge.proofs.Beside.{verdict_beside}
use Rattle.status.specs.declared.reply.Particulars.{Particulars}
use Rattle.status.specs.Reply.{saying, room, verdict_of, referred, said}
use Rattle.status.proofs.Bounds.{room_length, told_length, told_table}

never : {A : Type 0} {r : Refusal} {v : A} → ◌≡◌ {A = Result A Refusal} (Ok v) (Err r) → ⊥
never h = cc

-- the table shows in a verdict only by its length
pub by_length : (R : Rules) (t u m : List ℕ) → length t ≡ length u → verdict R t m ≡ verdict R u m
unfolding verdict
by_length R t u m l = rw l

-- the codes of the items that a verdict counts, and the table's first bytes
module _ (l : Lent) (m : List ℕ) where
  abbrev codes : Verdict → List ℕ
  codes v = cond (eqb v.closing.code 0) (map (λ f. f.code) (found_in (rules l) m)) []

  in_table : (t : List ℕ) → overflows (rules l) t m ≡ false
      → take (length (codes (verdict (rules l) t m))) (table_after (rules l) t m) ≡ codes (verdict (rules l) t m)
  in_table t o =
      ap (λ (n : ℕ). take n (table_after (rules l) t m)) (told_length l t m o) ∙ told_table l t m o

-- a session with a table of the most bytes
module _ (l : Lent) (t : List ℕ) (ps : List (List ℕ)) (g : Passing l) (h : length t ≡ most) where
  abbrev R : Rules
  R = rules l

  abbrev m : List ℕ
  m = joined ps

  as_long : length t ≡ length room
  as_long = h ∙ sym room_length

  same_verdict : verdict R t m ≡ verdict R room m
  same_verdict = by_length R t room m as_long

  -- closing gives the reply's verdict, or overflow
  pub session_closing : (closed_of (fed (opened l.day t).next t l.lists ps).0).closing ≡ closing_of (verdict_of l (joined ps))
  session_closing = ap (λ (c : Closed). c.closing) (great l t ps g (omega arith)).0 ∙ ap closing_of same_verdict

  -- what the reply says is what closing gives
  pub session_verdict : (p : Particulars) (k : Closing) → (closed_of (fed (opened l.day t).next t l.lists ps).0).closing ≡ Ok k
      → saying l.day (field 10 34 (joined ps)) p k ≡ said l (joined ps) p
  session_verdict p k e = ap (saying l.day (field 10 34 m) p) (go (eqb (verdict_of l m).refusal 0) (sym e ∙ session_closing))
    where
      go : (b : Bool) → Ok k ≡ cond b (Ok (verdict_of l m).closing) (Err refusal.Overflow) → k ≡ (verdict_of l m).closing
      go true q = cc
      go false q = absurd (never q)

  -- and where closing is refused, what stands beside its number
  pub session_said : (p : Particulars)
      → saying l.day (field 10 34 (joined ps)) p (or_no_closing (closed_of (fed (opened l.day t).next t l.lists ps).0).closing) ≡ said l (joined ps) p
  session_said p =
      ap (λ (c : Closed). saying l.day (field 10 34 m) p (or_no_closing c.closing)) (great l t ps g (omega arith)).0
      ∙ ap (saying l.day (field 10 34 m) p) (verdict_beside l t m)
      ∙ ap (λ (v : Verdict). saying l.day (field 10 34 m) p v.closing) same_verdict

  -- and its codes are the first of the table
  pub session_codes : overflows R room (joined ps) ≡ false
      → take (length (referred l (joined ps))) (fed (opened l.day t).next t l.lists ps).1 ≡ referred l (joined ps)
  unfolding referred
  session_codes o =
      let q : codes l m (verdict R t m) ≡ referred l m = ap (codes l m) same_verdict in
      let r : overflows R t m ≡ false = ap (λ (n : ℕ). ltb n (length (found_in R m))) as_long ∙ o in
      ap (λ (cs : List ℕ). take (length cs) (fed (opened l.day t).next t l.lists ps).1) (sym q)
      ∙ ap (take (length (codes l m (verdict R t m)))) (great l t ps g (omega arith)).1
      ∙ in_table l m t r
      ∙ q
