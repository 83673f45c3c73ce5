-- What is printed doesn't depend on the cutting: by pieces it is what is printed for the uncut message. And the example of 01.
-- Assumes nothing.
use mathlib.Core.Path.{◌≡◌, refl, ap, ◌∙◌}
use mathlib.Core.Bool.{Bool, true, false}
use mathlib.Core.List.{List, [], ◌∷◌, ◌++◌}
use Prim.Native.Nat.{ℕ, ◌/◌, ◌≤◌}
use native.Mathlib.Omega.{arith}
use lib.Dec.{leb}
use lib.ListN.{length}
use borrow.Author.Tests.{leb-true, le-leb, le-ltb, eq-eqb}
use Rattle.std.proofs.Common.{Option, Some, None}
use Rattle.base.specs.Bytes.{ascii}
use Rattle.base.proofs.Every.{both}
use Rattle.digits.specs.Digits.{number_of, figures}
use Rattle.calendar.specs.Calendar.{leap, is_date}
use Rattle.calendar.specs.DateField.{date_field}
use Rattle.lent.specs.Lent.{Lists, Lent, listed, list_refused}
use Rattle.lists.specs.Banks.{is_bank_list}
use Rattle.lists.specs.Known.{is_known_list}
use Rattle.frame.specs.Records.{ended}
use Rattle.frame.specs.Verdict.{findings, told_by, verdict}
use Rattle.frame.specs.Machine.{joined}
use Rattle.lent.specs.declared.Refusal.{Refusal}
use Rattle.lent.specs.declared.Refusal.TheVariants as refusal
use Rattle.kinds.specs.Codes.{rules}
use Rattle.kinds.proofs.Instance.{sound, empty_message}
use Rattle.std.proofs.Common.{Ok, Err}
use Rattle.judge.specs.declared.Session.{Session}
use Rattle.judge.specs.declared.Closed.{Closed}
use Rattle.judge.specs.Session.{most, in_range, state_of, closed_session, give, open_refused, opened, piece_refused, lent_to, taken, table_taken}
use Rattle.judge.specs.Session.{whole_refused, judged_of}
use Rattle.judge.specs.Feeding.{fed}
use Rattle.judge.proofs.Ranges.{kept_run, kept_session, opened_in_range, taken_in_range}
use Rattle.judge.proofs.Great.{Passing, great}
use Rattle.files.specs.Files.{longest, day_of, numbers, is_banks, is_known_file, given_at, given_by}
use Rattle.lines.specs.Slip.{line_end, places, slip_of}
use Rattle.slips.specs.Message.{fed_of, table_fed, told, closing_by, answer_of, fed_all, by_files, lent_by, printed, printed_by}
use Rattle.files.proofs.Says.{day_date, banks_list}

module _ (l : Lists) (b : list_refused l ≡ Ok tt) where
  -- an open session takes a piece, and its table keeps its length
  module _ (s : Session) (p t : List ℕ) (r : in_range s ≡ true) (h : length t ≡ s.room) where
    passes : piece_refused s l (length t) ≡ Ok tt
    unfolding piece_refused
    passes = rw (r, b, eq-eqb (length t) s.room h)

    takes : taken s p l t ≡ give (Ok tt) (taken s p l t).next
    unfolding taken
    takes = rw passes

    same_room : length (table_taken s p l t) ≡ (taken s p l t).next.room
    unfolding taken table_taken
    same_room = rw passes (kept_run (rules (lent_to s l)) (sound (lent_to s l)) s.room (state_of s t) p (kept_session s t r h)).room

  -- no piece is refused
  none_refused : (s : Session) (t : List ℕ) (ps : List (List ℕ)) → in_range s ≡ true → length t ≡ s.room
      → fed_all (give (Ok tt) s) t l ps ≡ give (Ok tt) (fed s t l ps).0
  unfolding fed_all fed_of table_fed fed
  none_refused s t [] r h = refl
  none_refused s t (p ∷ ps) r h =
      rw (takes s p t r h) (none_refused (taken s p l t).next (table_taken s p l t) ps (taken_in_range s p l t r) (same_room s p t r h))

-- after a refusal nothing is taken
stays : (r : Refusal) (s : Session) (t : List ℕ) (l : Lists) (ps : List (List ℕ)) → fed_all (give (Err r) s) t l ps ≡ give (Err r) s
unfolding fed_all fed_of table_fed
stays r s t l [] = refl
stays r s t l (p ∷ ps) = stays r s t l ps

module _ (l : Lent) (t : List ℕ) (g : Passing l) (ps : List (List ℕ)) where
  abbrev Agrees : Type 0
  Agrees = answer_of (fed_all (opened l.day t) t l.lists ps) ≡ told (judged_of l t (joined ps))

  -- a table with too many bytes
  no_table : leb (length t) most ≡ false → Agrees
  unfolding opened open_refused judged_of whole_refused closing_by
  no_table h = rw (g.day, h, stays refusal.Table closed_session t l.lists ps)

  -- any other
  opens : leb (length t) most ≡ true → open_refused l.day t ≡ Ok tt
  unfolding open_refused
  opens h = rw (g.day, h)

  open_session : leb (length t) most ≡ true → opened l.day t ≡ give (Ok tt) (opened l.day t).next
  unfolding opened
  open_session h = rw (opens h)

  its_room : leb (length t) most ≡ true → length t ≡ (opened l.day t).next.room
  unfolding opened
  its_room h = rw (opens h)

  says : leb (length t) most ≡ true → Agrees
  unfolding judged_of whole_refused closing_by
  says h =
      let k = leb-true (length t) most h in
      let s = (opened l.day t).next in
      ap (λ x. answer_of (fed_all x t l.lists ps)) (open_session h)
      ∙ ap answer_of (none_refused l.lists g.lists s t ps (opened_in_range l.day t g.day k) (its_room h))
      ∙ ap (λ (x : Closed). told x.closing) (great l t ps g k).0
      ∙ rw (opens h, g.lists)

  by_pieces : Agrees
  by_pieces = go (leb (length t) most) refl
    where
      go : (b : Bool) → leb (length t) most ≡ b → Agrees
      go true h = says h
      go false h = no_table h

-- what the files say by the tests on them, and what follows where they pass
cases : (d : Option ℕ) (v w : Bool) (n : ℕ) (f g : ℕ → List ℕ) → ((e : ℕ) → d ≡ Some e → v ≡ true → w ≡ true → f e ≡ g e)
    → by_files (given_at d v w n) f ≡ by_files (given_at d v w n) g
cases None v w n f g h = refl
cases (Some e) false w n f g h = refl
cases (Some e) true false n f g h = refl
cases (Some e) true true n f g h = h e refl refl refl

-- an empty barred list is never refused
lists_pass : (banks known : List ℕ) → is_bank_list banks ≡ true → is_known_list known ≡ true → list_refused (listed banks known []) ≡ Ok tt
unfolding list_refused
lists_pass banks known b k = rw (b, k)

-- for all files, lists and tables that are lent, and all pieces
pub any_pieces : (day banks known : List ℕ) (room : ℕ) (table : List ℕ) (ps : List (List ℕ))
    → printed_by day banks known room table ps ≡ printed day banks known room table (joined ps)
unfolding printed_by printed given_by
any_pieces day banks known room table ps =
    cases (day_of day) (is_banks banks room) (is_known_file known) (length banks / 9)
    (λ e. answer_of (fed_all (opened e table) table (lent_by e banks known).lists ps))
    (λ e. told (judged_of (lent_by e banks known) table (joined ps)))
    (λ e z v w.
    let l = lent_by e banks known in
    let g = lists_pass (numbers banks) known (banks_list banks room v) (both (leb (length known) longest) (is_known_list known) w).1 in
    by_pieces l table (record { day = day_date day e z; lists = g }) ps)

-- 01's example, with the line of the kind (02, #101): for an empty message, day 20200310 and empty lists, in a table of any length
pub paper : (room : ℕ) (table : List ℕ) → length table ≤ most
    → printed (ascii "20200310") [] [] room table []
    ≡ ascii "KIND ATUTAL"
    ++ line_end
    ++ ascii "MESSAGE 26"
    ++ line_end
    ++ ascii "ACCEPTED 0 0"
    ++ line_end
    ++ ascii "REFUSED 0 0"
    ++ line_end
    ++ ascii "ZERO 0"
    ++ line_end
unfolding printed given_by is_banks day_of date_field leap is_date number_of judged_of whole_refused open_refused
    list_refused verdict told_by findings ended slip_of figures places
paper room table h =
    rw (le-leb 0 room (omega arith), le-leb (length table) most h, le-ltb (length table) 0 (omega arith), empty_message (lent_by 20200310 [] []))
