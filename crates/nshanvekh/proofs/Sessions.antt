-- The calls over a session: a buffer of a wrong size, a refusal, and what is left where there is none.
-- Assumes nothing.
use mathlib.Core.Path.{◌≡◌, refl, sym, ap, ◌∙◌}
use mathlib.Core.Bool.{Bool, true, false, cond}
use mathlib.Core.List.{List}
use Prim.Native.Nat.{ℕ}
use native.Mathlib.Omega.{arith}
use lib.Dec.{eqb}
use lib.ListN.{length}
use borrow.Author.Tests.{eq-eqb, ne_eqb, eqb-true}
use Rattle.base.proofs.Every.{both}
use Rattle.lent.specs.Lent.{Outcome, Lists, outcome_number, by}
use Rattle.lent.specs.declared.Refusal.{Refusal}
use Rattle.lent.specs.declared.Refusal.TheVariants as refusal
use Rattle.frame.specs.declared.Closing.{Closing}
use Rattle.judge.specs.declared.Session.{Session}
use Rattle.std.proofs.Common.{Result, Ok, Err}
use Rattle.judge.specs.declared.Taken.{Taken}
use Rattle.judge.specs.declared.Closed.{Closed}
use Rattle.judge.specs.Session.{opened, piece_refused, taken, closed_of}
use Rattle.packed.specs.Packed.{packed_bytes, bytes_of, is_packed, unpacked, PackedAs, TakenIn}
use Rattle.packed.proofs.Taking.{closed_out}
use Rattle.nshanvekh.specs.Session.{if_done, OpenedAs, PieceAs, told, closing_numbers, closing_id, ClosingTold, sized_all, ClosedAs}

-- a session that was packed into a whole buffer
module _ {s : Session} {x : List ℕ} {b : Bool} {x' : List ℕ} (h : length x ≡ packed_bytes) (p : PackedAs s x b x') where
  packed_is : x' ≡ bytes_of s
  packed_is = rw (eq-eqb (length x) packed_bytes h) at p.bytes

  held : unpacked x' ≡ s
  held = ap unpacked packed_is ∙ p.back

module _ {e : ℕ} {t x : List ℕ} where
  pub open_wrong : (length x ≡ packed_bytes → ⊥) → OpenedAs e t x 99 x
  open_wrong h =
      let q = ne_eqb (length x) packed_bytes h in
      record { answer = rw q; session = rw q; holds = λ k. absurd (h (eqb-true (length x) packed_bytes k)) }

  pub open_right : length x ≡ packed_bytes → {o : Taken} → o ≡ opened e t → {b : Bool} {x' : List ℕ} → PackedAs o.next x b x'
      → {r : ℕ} → r ≡ outcome_number o.outcome → OpenedAs e t x r x'
  open_right h {o} i {b} {x'} p {r} n =
      let q = eq-eqb (length x) packed_bytes h in
      record {
        answer = rw q (n ∙ ap (λ (w : Taken). outcome_number w.outcome) i);
        session = rw q (packed_is h p ∙ ap (λ (w : Taken). bytes_of w.next) i);
        holds = λ k. held h p ∙ ap (λ (w : Taken). w.next) i;
      }

-- no refusal has the number 0
if_done_lem : (o : Outcome) (new old : List ℕ) → by o new (λ f. old) ≡ if_done (outcome_number o) new old
if_done_lem (Ok u) new old = refl
if_done_lem (Err refusal.NotADay) new old = refl
if_done_lem (Err refusal.BankList) new old = refl
if_done_lem (Err refusal.KnownList) new old = refl
if_done_lem (Err refusal.Table) new old = refl
if_done_lem (Err refusal.Session) new old = refl
if_done_lem (Err refusal.Overflow) new old = refl
if_done_lem (Err refusal.Address) new old = refl
if_done_lem (Err refusal.Particulars) new old = refl
if_done_lem (Err refusal.Room) new old = refl
if_done_lem (Err refusal.Malformed) new old = refl
if_done_lem (Err refusal.RequestList) new old = refl
if_done_lem (Err refusal.Fedjel) new old = refl
if_done_lem (Err refusal.Standing) new old = refl
if_done_lem (Err refusal.BarredList) new old = refl

module _ {x p : List ℕ} {l : Lists} {t : List ℕ} where
  pub piece_wrong : (length x ≡ packed_bytes → ⊥) → PieceAs x p l t 99 x t
  piece_wrong h =
      let q = ne_eqb (length x) packed_bytes h in
      record { answer = rw q; session = refl; table = rw q; holds = λ k. absurd (omega arith) }

  pub piece_right : length x ≡ packed_bytes → {o : Outcome} {x' t' : List ℕ} → TakenIn x p l t o x' t' → {r : ℕ} → r ≡ outcome_number o
      → PieceAs x p l t r x' t'
  piece_right h {o} k n =
      let q = eq-eqb (length x) packed_bytes h in
      record {
        answer = rw q (n ∙ ap outcome_number k.outcome);
        session = rw n (k.session ∙ if_done_lem o (bytes_of (taken (unpacked x) p l t).next) x);
        table = rw q k.table;
        holds = λ z. k.holds;
      }

-- the number of a closing
close_answer : (x ns id : List ℕ) → sized_all x ns id ≡ true → (c : Closed) → c ≡ closed_of (unpacked x) → (n : ℕ) → n ≡ outcome_number c.closing
    → n ≡ cond (sized_all x ns id) (outcome_number (closed_of (unpacked x)).closing) 99
close_answer x ns id h c k n m = rw h (m ∙ ap (λ (y : Closed). outcome_number y.closing) k)

-- a closing whose number isn't 0 tells nothing
none_told : (k : Result Closing Refusal) (f : Closing → List ℕ) (old : List ℕ) → (outcome_number k ≡ 0 → ⊥) → old ≡ told k f old
none_told (Ok k) f old h = absurd (h refl)
none_told (Err r) f old h = refl

module _ {x ns id : List ℕ} where
  pub close_wrong : sized_all x ns id ≡ false → ClosedAs x ns id 99 x ns id
  close_wrong f = record { answer = rw f; session = rw f; numbers = rw f; identifier = rw f }

  module _ (f : sized_all x ns id ≡ true) {s : Session} (i : s ≡ unpacked x) {c : Closed} (k : c ≡ closed_of s) {n : ℕ}
      (m : n ≡ outcome_number c.closing) where
    -- 5 leaves all as it was
    pub close_refused : n ≡ 5 → ClosedAs x ns id n x ns id
    close_refused e =
        let q : c ≡ closed_of (unpacked x) = k ∙ ap closed_of i in
        let z : outcome_number (closed_of (unpacked x)).closing ≡ 0 → ⊥ =
        λ y. absurd (omega (arith, e, m ∙ ap (λ (w : Closed). outcome_number w.closing) q, y)) in
        record {
          answer = close_answer x ns id f c q n m;
          session = rw (f, eq-eqb n 5 e);
          numbers = rw f (none_told (closed_of (unpacked x)).closing closing_numbers ns z);
          identifier = rw f (none_told (closed_of (unpacked x)).closing closing_id id z);
        }

    pub close_told : (n ≡ 5 → ⊥) → {b : Bool} {x' : List ℕ} → PackedAs c.next x b x' → {r : ℕ} {ns' id' : List ℕ}
        → ClosingTold c.closing ns id r ns' id' → ClosedAs x ns id r x' ns' id'
    close_told e p {r} o =
        let l = eqb-true (length x) packed_bytes (both (eqb (length x) packed_bytes) _ f).0 in
        let q : c ≡ closed_of (unpacked x) = k ∙ ap closed_of i in
        let a : r ≡ n = o.answer ∙ sym m in
        record {
          answer = a ∙ close_answer x ns id f c q n m;
          session = rw (f, a, ne_eqb n 5 e) (packed_is l p ∙ ap (λ (y : Closed). bytes_of y.next) q);
          numbers = rw f (o.numbers ∙ ap (λ (y : Closed). told y.closing closing_numbers ns) q);
          identifier = rw f (o.identifier ∙ ap (λ (y : Closed). told y.closing closing_id id) q);
        }

-- seven numbers and an identifier
pub close_sizes : (x ns id : List ℕ) → sized_all x ns id ≡ true → (length ns ≡ 7) × (length id ≡ 25)
close_sizes x ns id f =
    let h = (both (eqb (length x) packed_bytes) _ f).1 in
    (eqb-true (length ns) 7 (both (eqb (length ns) 7) _ h).0, eqb-true (length id) 25 (both (eqb (length ns) 7) _ h).1)

-- bytes that are no session's are refused with 5
module _ (x : List ℕ) (h : is_packed x ≡ false) where
  pub piece_five : (p : List ℕ) (l : Lists) (t : List ℕ) → outcome_number (taken (unpacked x) p l t).outcome ≡ 5
  unfolding taken piece_refused unpacked
  piece_five p l t = rw (h, closed_out)

  pub close_five : outcome_number (closed_of (unpacked x)).closing ≡ 5
  unfolding closed_of unpacked
  close_five = rw (h, closed_out)
