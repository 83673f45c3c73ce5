-- The great theorems: a message in any pieces is judged as the uncut message; judging at once is opening, one piece and closing;
-- with code 00 the numbers are those of the foot, and code 00 is given exactly when no fault of the whole message exists. For a bank list
-- that passes, the rules ask of a bank that it is an element.
-- Assumes nothing.
use mathlib.Core.Path.{◌≡◌, refl, sym, ap, ◌∙◌}
use mathlib.Core.Bool.{Bool, true, false, cond, false≢true}
use mathlib.Core.List.{List, [], ◌∷◌}
use Prim.Native.Nat.{ℕ, ◌+◌, ◌≤◌}
use native.Mathlib.Omega.{arith}
use lib.ListN.{length}
use lib.Dec.{leb, eqb}
use borrow.Author.Tests.{leb-true, eq-eqb, eqb-true}
use Rattle.base.specs.Bytes.{field}
use Rattle.digits.specs.Digits.{number_of}
use Rattle.calendar.specs.Calendar.{is_date}
use Rattle.lists.specs.Banks.{member, is_bank_list, is_barred_list}
use Rattle.lists.specs.Known.{is_known_list}
use Rattle.lent.specs.Lent.{Outcome, Lists, Lent, list_refused, by}
use Rattle.lent.specs.declared.Refusal.{Refusal}
use Rattle.lent.specs.declared.Refusal.TheVariants as refusal
use Rattle.std.proofs.Common.{Result, Ok, Err}
use Rattle.frame.specs.declared.Closing.{Closing}
use Rattle.frame.specs.Records.{lengths, foot_of}
use Rattle.frame.specs.Verdict.{Rules, Verdict, found_in, message_code, identifier, told_by, overflows, verdict, table_after, blank, overflow, given, counted}
use Rattle.frame.specs.Machine.{State, fresh, run, closing, joined}
use Rattle.frame.proofs.Pieces.{run_append}
use Rattle.frame.proofs.Whole.{uncut}
use Rattle.frame.proofs.Faults.{totals as foot-totals}
use Rattle.kinds.specs.Codes.{rules, member_rules}
use Rattle.kinds.specs.Faultless.{Faultless}
use Rattle.kinds.proofs.Instance.{sound}
use Rattle.kinds.proofs.Listed.{by_membership}
use Rattle.kinds.proofs.Faultless.{faultless, faultless_code}
use Rattle.judge.specs.declared.Closed.{Closed}
use Rattle.judge.specs.Session.{most, session_of, give, open_refused, opened, piece_refused, taken, table_taken}
use Rattle.judge.specs.Session.{closing_of, closed_as, closed_of, whole_refused, judged_of, table_judged}
use Rattle.judge.specs.Feeding.{fed, at_once, table_at_once}
use Rattle.judge.proofs.Ranges.{Kept, kept_run, kept_fresh, session_in_range, session_state, open_passes}

module _ (e : ℕ) (d : is_date e ≡ true) (n : ℕ) (s : State) (k : Kept n s) where
  closed_is : closed_of (session_of e n s) ≡ closed_as (closing s.tally)
  unfolding closed_of
  closed_is = rw (session_in_range e n s k d)

  -- a piece is refused where a list is
  piece_is : (l : Lists) → piece_refused (session_of e n s) l (length s.table) ≡ list_refused l
  unfolding piece_refused
  piece_is l = rw (session_in_range e n s k d, eq-eqb (length s.table) n k.room) (go (list_refused l))
    where
      go : (o : Outcome) → by o (Ok tt) Err ≡ o
      go (Ok tt) = refl
      go (Err r) = refl

  module _ (l : Lent) (i : l.day ≡ e) (q : list_refused l.lists ≡ Ok tt) (p : List ℕ) where
    next_is : taken (session_of e n s) p l.lists s.table ≡ give (Ok tt) (session_of e n (run (rules l) s p))
    unfolding taken
    next_is = rw (piece_is l.lists, q, session_state e n s k, ← i)

    table_is : table_taken (session_of e n s) p l.lists s.table ≡ (run (rules l) s p).table
    unfolding table_taken
    table_is = rw (piece_is l.lists, q, session_state e n s k, ← i)

abbrev is_done : {A : Type 0} → Result A Refusal → Bool
is_done (Ok a) = true
is_done (Err r) = false

-- a refusal isn't the outcome where nothing is refused
refused_done : {A : Type 0} {r : Refusal} {a : A} → ◌≡◌ {A = Result A Refusal} (Err r) (Ok a) → ⊥
refused_done e = false≢true (ap is_done e)

-- what is lent passes: the day is one, and no list is refused
pub record Passing (l : Lent) : Type 0 where
  pub day : is_date l.day ≡ true
  pub lists : list_refused l.lists ≡ Ok tt

-- a bank list and a barred list that aren't refused are such lists
lists_pass : (l : Lists) → list_refused l ≡ Ok tt → (is_bank_list l.banks ≡ true) × (is_barred_list l.barred ≡ true)
unfolding list_refused
lists_pass l q = go (is_bank_list l.banks) (is_known_list l.known) (is_barred_list l.barred) q
  where
    go : (b k d : Bool) → cond {A = Outcome} b (cond k (cond d (Ok tt) (Err refusal.BarredList)) (Err refusal.KnownList)) (Err refusal.BankList) ≡ Ok tt
        → (b ≡ true) × (d ≡ true)
    go true true true e = (refl, refl)
    go true true false e = absurd (refused_done e)
    go true false d e = absurd (refused_done e)
    go false k d e = absurd (refused_done e)

-- so a bank is listed, or barred, where it is an element of the list
pub listed_is_member : (l : Lent) → Passing l → rules l ≡ member_rules l
listed_is_member l g =
    let p = lists_pass l.lists g.lists in
    by_membership l p.0 p.1

module _ (l : Lent) (g : Passing l) where
  abbrev e : ℕ
  e = l.day

  abbrev R : Rules
  R = rules l

  -- the cutting doesn't show
  fed_run : (n : ℕ) (s : State) (ps : List (List ℕ)) → Kept n s
      → fed (session_of e n s) s.table l.lists ps ≡ (session_of e n (run R s (joined ps)), (run R s (joined ps)).table)
  unfolding fed joined run
  fed_run n s [] k = refl
  fed_run n s (p ∷ ps) k =
      rw (next_is e g.day n s k l refl g.lists p, table_is e g.day n s k l refl g.lists p, run_append R s p (joined ps))
      (fed_run n (run R s p) ps (kept_run R (sound l) n s p k))

opened_is : (e : ℕ) (t : List ℕ) → is_date e ≡ true → length t ≤ most → opened e t ≡ give (Ok tt) (session_of e (length t) (fresh t))
unfolding opened
opened_is e t d h = rw (open_passes e t d h)

-- whatever the pieces, closing gives the verdict on the message that they make, and the table is its table
pub great : (l : Lent) (t : List ℕ) (ps : List (List ℕ)) → Passing l → length t ≤ most
    → (closed_of (fed (opened l.day t).next t l.lists ps).0 ≡ closed_as (verdict (rules l) t (joined ps)))
    × ((fed (opened l.day t).next t l.lists ps).1 ≡ table_after (rules l) t (joined ps))
great l t ps g h =
    let n = length t in
    let R = rules l in
    let o = kept_fresh t h in
    let w = uncut R t (joined ps) in
    let s = run R (fresh t) (joined ps) in
    rw (opened_is l.day t g.day h, fed_run l g n (fresh t) ps o)
    (closed_is l.day g.day n s (kept_run R (sound l) n (fresh t) (joined ps) o) ∙ ap closed_as w.says, w.bytes)

-- judging a whole message is opening, one piece and closing, whether they are refused or not
module _ (l : Lent) (t m : List ℕ) where
  record Same : Type 0 where
    result : judged_of l t m ≡ at_once l t m
    bytes : table_judged l t m ≡ table_at_once l t m

  not_opened : (r : Refusal) → open_refused l.day t ≡ Err r → Same
  unfolding judged_of table_judged whole_refused at_once table_at_once opened
  not_opened r q = record { result = rw q; bytes = rw q }

  module _ (q : open_refused l.day t ≡ Ok tt) (d : is_date l.day ≡ true) (h : length t ≤ most) where
    first : piece_refused (session_of l.day (length t) (fresh t)) l.lists (length t) ≡ list_refused l.lists
    first = piece_is l.day d (length t) (fresh t) (kept_fresh t h) l.lists

    no_list : (r : Refusal) → list_refused l.lists ≡ Err r → Same
    unfolding judged_of table_judged whole_refused at_once table_at_once taken table_taken
    no_list r p =
        let o = opened_is l.day t d h in
        record { result = rw (o, q, first, p); bytes = rw (o, q, first, p) }

    answered : list_refused l.lists ≡ Ok tt → Same
    unfolding judged_of table_judged whole_refused at_once table_at_once
    answered p =
        let n = length t in
        let R = rules l in
        let f = kept_fresh t h in
        let o = opened_is l.day t d h in
        let w = uncut R t m in
        let c = closed_is l.day d n (run R (fresh t) m) (kept_run R (sound l) n (fresh t) m f) ∙ ap closed_as w.says in
        record {
          result = rw (o, q, p, next_is l.day d n (fresh t) f l refl p m) (sym (ap (λ (x : Closed). x.closing) c));
          bytes = rw (o, q, p, table_is l.day d n (fresh t) f l refl p m) (sym w.bytes);
        }

    by_lists : (o : Outcome) → list_refused l.lists ≡ o → Same
    by_lists (Err r) p = no_list r p
    by_lists (Ok tt) p = answered p

  refused_as : (d h : Bool) → is_date l.day ≡ d → leb (length t) most ≡ h
      → open_refused l.day t ≡ cond d (cond h (Ok tt) (Err refusal.Table)) (Err refusal.NotADay)
  unfolding open_refused
  refused_as d h p q = rw (p, q)

  both_same : Same
  both_same = go (is_date l.day) refl (leb (length t) most) refl
    where
      go : (d : Bool) → is_date l.day ≡ d → (h : Bool) → leb (length t) most ≡ h → Same
      go false d h p = not_opened refusal.NotADay (refused_as false h d p)
      go true d false p = not_opened refusal.Table (refused_as true false d p)
      go true d true p = by_lists (refused_as true true d p) d (leb-true (length t) most p) (list_refused l.lists) refl

  pub same : judged_of l t m ≡ at_once l t m
  same = both_same.result

  pub same_table : table_judged l t m ≡ table_at_once l t m
  same_table = both_same.bytes

-- the closing in a result, and another one where there is none
abbrev closing_in : Closing → Result Closing Refusal → Closing
closing_in d (Ok k) = k
closing_in d (Err r) = d

-- a closing that is given is the verdict's, which refuses nothing
done_none : (v : Verdict) (k : Closing) → closing_of v ≡ Ok k → (v.refusal ≡ 0) × (v.closing ≡ k)
done_none v k e = go (eqb v.refusal 0) refl e
  where
    go : (b : Bool) → eqb v.refusal 0 ≡ b → cond b (Ok v.closing) (Err refusal.Overflow) ≡ Ok k → (v.refusal ≡ 0) × (v.closing ≡ k)
    go true q e = (eqb-true v.refusal 0 q, ap (closing_in v.closing) e)
    go false q e = absurd (refused_done e)

-- where nothing is refused, the code is the message's, and the kind the one that its head told
module _ (R : Rules) (t m : List ℕ) where
  abbrev said : Bool → Bool → Verdict
  said o z =
      cond o
      overflow
      (given (cond z (counted (told_by R m).kind (found_in R m) (identifier R m)) (blank (told_by R m).kind (message_code R m) (identifier R m))))

  verdict_code : (verdict R t m).refusal ≡ 0 → (verdict R t m).closing.code ≡ message_code R m
  unfolding verdict
  verdict_code r = go (overflows R t m) (eqb (message_code R m) 0) refl r
    where
      go : (o z : Bool) → eqb (message_code R m) 0 ≡ z → (said o z).refusal ≡ 0 → (said o z).closing.code ≡ message_code R m
      go true z q r = absurd (omega arith)
      go false true q r = sym (eqb-true (message_code R m) 0 q)
      go false false q r = refl

  verdict_kind : (verdict R t m).refusal ≡ 0 → (verdict R t m).closing.kind ≡ (told_by R m).kind
  unfolding verdict
  verdict_kind r = go (overflows R t m) (eqb (message_code R m) 0) r
    where
      go : (o z : Bool) → (said o z).refusal ≡ 0 → (said o z).closing.kind ≡ (told_by R m).kind
      go true z r = absurd (omega arith)
      go false true r = refl
      go false false r = refl

-- a message in any pieces, where closing isn't refused: the table had a byte for each item
module _ (l : Lent) (t : List ℕ) (ps : List (List ℕ)) (g : Passing l) (h : length t ≤ most) where
  abbrev c : Closed
  c = closed_of (fed (opened l.day t).next t l.lists ps).0

  abbrev v : Verdict
  v = verdict (rules l) t (joined ps)

  says : c ≡ closed_as v
  says = (great l t ps g h).0

  -- what is given is the verdict's, which refuses nothing
  given_is : (k : Closing) → c.closing ≡ Ok k → (v.refusal ≡ 0) × (v.closing ≡ k)
  given_is k o = done_none v k (sym (ap (λ (x : Closed). x.closing) says) ∙ o)

  -- the kind that the head told is given with every code
  pub kind_is : (k : Closing) → c.closing ≡ Ok k → k.kind ≡ (told_by (rules l) (joined ps)).kind
  kind_is k o =
      let f = given_is k o in
      ap (λ (x : Closing). x.kind) (sym f.1) ∙ verdict_kind (rules l) t (joined ps) f.0

  -- with code 00, accepted and refused items number what the foot says, and their amounts make its sum
  pub totals : (k : Closing) → c.closing ≡ Ok k → k.code ≡ 0
      → (k.accepted.count + k.refused.count ≡ number_of (field 3 8 (foot_of lengths (joined ps))))
      × (k.accepted.sum + k.refused.sum ≡ number_of (field 9 24 (foot_of lengths (joined ps))))
  totals k o z =
      let f = given_is k o in
      let n = foot-totals (rules l) (sound l) t (joined ps) f.0 (ap (λ (x : Closing). x.code) f.1 ∙ z) in
      rw (← f.1) (n.count, n.sum)

  -- code 00 exactly when there is no fault of the whole message
  abbrev None : Type 0
  None = Faultless l.day (λ x. member x l.lists.banks) l.lists.known (joined ps)

  pub exactly : (k : Closing) → c.closing ≡ Ok k → (k.code ≡ 0 → None) × (None → k.code ≡ 0)
  exactly k o =
      let f = given_is k o in
      let M = member_rules l in
      let m = joined ps in
      let r : message_code (rules l) m ≡ message_code M m = ap (λ (R : Rules). message_code R m) (listed_is_member l g) in
      let q : k.code ≡ message_code M m = ap (λ (x : Closing). x.code) (sym f.1) ∙ verdict_code (rules l) t m f.0 ∙ r in (
        λ z. faultless l.day (λ x. member x l.lists.banks) l.lists.known (λ x. member x l.lists.barred) m (sym q ∙ z),
        λ n. q ∙ faultless_code l.day (λ x. member x l.lists.banks) l.lists.known (λ x. member x l.lists.barred) m n,
      )
