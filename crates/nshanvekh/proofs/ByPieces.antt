-- A message in any pieces through the calls over a session gives what the call over the whole message gives.
-- Assumes nothing.
use mathlib.Core.Path.{◌≡◌, refl, sym, ap, ◌∙◌}
use mathlib.Core.Bool.{Bool, true, false, false≢true}
use mathlib.Core.List.{List}
use Prim.Native.Nat.{ℕ, ◌≤◌}
use lib.ListN.{length, replicate}
use borrow.Author.Tests.{eq-eqb}
use Rattle.lent.specs.Lent.{Lists, Lent, list_refused, outcome_number}
use Rattle.frame.specs.Verdict.{verdict, table_after}
use Rattle.frame.specs.Machine.{joined}
use Rattle.kinds.specs.Codes.{rules}
use Rattle.judge.specs.declared.Session.{Session}
use Rattle.std.proofs.Common.{Result, Ok}
use Rattle.judge.specs.declared.Closed.{Closed}
use Rattle.frame.specs.declared.Closing.{Closing}
use Rattle.lent.specs.declared.Refusal.{Refusal}
use Rattle.judge.specs.Session.{
  most,
  state_of,
  session_of,
  in_range,
  give,
  open_refused,
  opened,
  piece_refused,
  lent_to,
  after,
  taken,
  table_taken,
  closed_as,
  closed_of,
  whole_refused,
  judged_of,
  table_judged,
}
use Rattle.judge.specs.Feeding.{fed}
use Rattle.kinds.proofs.Instance.{sound}
use Rattle.judge.proofs.Ranges.{kept_run, kept_session, open_passes, opened_in_range, taken_in_range}
use Rattle.judge.proofs.Great.{Passing, great}
use Rattle.packed.specs.Packed.{packed_bytes, is_packed, unpacked}
use Rattle.packed.proofs.Fields.{long}
use Rattle.packed.proofs.Taking.{closed_out}
use Rattle.nshanvekh.specs.Session.{OpenedAs, told, closing_numbers, closing_id, ClosedAs}
use Rattle.nshanvekh.specs.Pieces.{Given, none, more, Whole}

-- bytes that hold an open session have its size
open_long : (x : List ℕ) → in_range (unpacked x) ≡ true → length x ≡ packed_bytes
unfolding unpacked
open_long x h = go (is_packed x) refl h
  where
    go : (b : Bool) → is_packed x ≡ b → in_range (unpacked x) ≡ true → length x ≡ packed_bytes
    go true e h = long x e
    go false e h = absurd (false≢true (sym closed_out ∙ rw e at h))

module _ (l : Lists) (g : list_refused l ≡ Ok tt) where
  -- an open session takes a piece, with a table of its length
  module _ (s : Session) (t p : List ℕ) (i : in_range s ≡ true) (h : length t ≡ s.room) where
    passes : piece_refused s l (length t) ≡ Ok tt
    unfolding piece_refused
    passes = rw (i, g, eq-eqb (length t) s.room h)

    takes : taken s p l t ≡ give (Ok tt) (session_of s.day s.room (after s p l t))
    unfolding taken
    takes = rw passes

    table_room : length (table_taken s p l t) ≡ (taken s p l t).next.room
    unfolding table_taken
    table_room =
        let n = lent_to s l in
        rw (passes, takes) (kept_run (rules n) (sound n) s.room (state_of s t) p (kept_session s t i h)).room

  record Fed (s : Session) (t : List ℕ) (ps : List (List ℕ)) (rs x' t' : List ℕ) : Type 0 where
    numbers : rs ≡ replicate (length ps) 0
    session : unpacked x' ≡ (fed s t l ps).0
    table : t' ≡ (fed s t l ps).1
    range : in_range (unpacked x') ≡ true

  -- the buffer holds the session that the pieces yield, one after the other
  feeds : {x t : List ℕ} {ps : List (List ℕ)} {rs x' t' : List ℕ} → Given l x t ps rs x' t'
      → in_range (unpacked x) ≡ true → length t ≡ (unpacked x).room → Fed (unpacked x) t ps rs x' t'
  unfolding fed
  feeds none i k = record { numbers = refl; session = refl; table = refl; range = i }
  feeds (more {x} {t} {p} {r} {y} {u} {ps} {rs} {x'} {t'} c g) i k =
      let s = unpacked x in
      let q = eq-eqb (length x) packed_bytes (open_long x i) in
      let z : r ≡ 0 = c.answer ∙ rw (q, takes s t p i k) in
      let h : unpacked y ≡ (taken s p l t).next = c.holds z in
      let v : u ≡ table_taken s p l t = c.table ∙ rw q in
      let j : in_range (unpacked y) ≡ true = rw h (taken_in_range s p l t i) in
      let m : length u ≡ (unpacked y).room = rw (v, h) (table_room s t p i k) in
      let f = feeds g j m in
      record {
        numbers = rw (z, f.numbers);
        session = rw (h, v) at f.session;
        table = rw (h, v) at f.table;
        range = f.range;
      }

-- opening, any pieces and closing, with a day, a table and lists that are not refused
module _ (l : Lent) (t : List ℕ) (g : Passing l) (h : length t ≤ most) where
  abbrev e : ℕ
  e = l.day

  passed : open_refused e t ≡ Ok tt
  passed = open_passes e t g.day h

  opens : (outcome_number (opened e t).outcome ≡ 0) × (length t ≡ (opened e t).next.room)
  unfolding opened
  opens = rw passed (refl, refl)

  module _ (m : List ℕ) where
    judged : judged_of l t m ≡ (closed_as (verdict (rules l) t m)).closing
    unfolding judged_of whole_refused
    judged = rw (passed, g.lists)

    judged_table : table_judged l t m ≡ table_after (rules l) t m
    unfolding table_judged whole_refused
    judged_table = rw (passed, g.lists)

  pub by_pieces : (ps : List (List ℕ)) (x ns id : List ℕ) → length x ≡ packed_bytes → length ns ≡ 7 → length id ≡ 25
      → {o : ℕ} {x₁ : List ℕ} → OpenedAs e t x o x₁
      → {rs x₂ t' : List ℕ} → Given l.lists x₁ t ps rs x₂ t'
      → {r : ℕ} {x₃ ns' id' : List ℕ} → ClosedAs x₂ ns id r x₃ ns' id'
      → Whole l t ns id ps o rs r t' ns' id'
  by_pieces ps x ns id hx hn hi {o} {x₁} a {rs} {x₂} {t'} d {r} {x₃} {ns'} {id'} c =
      let q = eq-eqb (length x) packed_bytes hx in
      let m = joined ps in
      let u : unpacked x₁ ≡ (opened e t).next = a.holds q in
      let f : Fed l.lists g.lists (opened e t).next t ps rs x₂ t' =
      rw u at (feeds l.lists g.lists d (rw u (opened_in_range e t g.day h)) (rw u opens.1)) in
      let w = great l t ps g h in
      let j : (closed_of (unpacked x₂)).closing ≡ judged_of l t m =
      ap (λ (s : Session). (closed_of s).closing) f.session ∙ ap (λ (c : Closed). c.closing) w.0 ∙ sym (judged m) in
      let p = eq-eqb (length x₂) packed_bytes (open_long x₂ f.range) in
      let n = eq-eqb (length ns) 7 hn in
      let i = eq-eqb (length id) 25 hi in
      record {
        opening = a.answer ∙ rw q opens.0;
        pieces = f.numbers;
        closing = record {
          answer = c.answer ∙ rw (p, n, i) (ap (λ (v : Result Closing Refusal). outcome_number v) j);
          table = f.table ∙ w.1 ∙ rw (n, i) (sym (judged_table m));
          numbers = c.numbers ∙ rw (p, n, i) (ap (λ (v : Result Closing Refusal). told v closing_numbers ns) j);
          identifier = c.identifier ∙ rw (p, n, i) (ap (λ (v : Result Closing Refusal). told v closing_id id) j);
        };
      }
