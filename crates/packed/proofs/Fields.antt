-- What the test of a session's bytes says, and the session that they stand for, field by field.
-- Assumes nothing.
use mathlib.Core.Path.{◌≡◌, refl, sym, ap, ◌∙◌}
use mathlib.Core.Bool.{Bool, true, false, ◌&&◌}
use mathlib.Core.List.{List}
use Prim.Native.Nat.{ℕ, ◌+◌, ◌≤◌}
use lib.Dec.{leb, eqb}
use lib.ListN.{length, get_or, take, drop}
use borrow.Author.Tests.{eqb-true, leb-true, eq-eqb, ne_eqb}
use Rattle.base.proofs.Every.{both}
use Rattle.calendar.specs.Calendar.{is_date}
use Rattle.frame.specs.declared.Totals.{Totals}
use Rattle.frame.specs.declared.Tally.{Tally}
use Rattle.judge.specs.declared.Session.{Session}
use Rattle.judge.specs.declared.Taken.{Taken}
use Rattle.judge.specs.Session.{longest, parts_of, open_refused, opened, closed_session}
use Rattle.packed.specs.Packed.{packed_bytes, value_at, totals_at, is_packed, tally_in, session_in, unpacked}

module _ (x : List ℕ) where
  -- another length
  pub not_packed : (length x ≡ packed_bytes → ⊥) → false ≡ is_packed x
  unfolding is_packed
  not_packed h = rw (ne_eqb (length x) packed_bytes h)

  -- the other tests
  abbrev others_pass : Bool
  others_pass = leb (get_or x 2 0) 1 && (leb (get_or x 9 0) 1 && (eqb (get_or x 10 0) 0 && eqb (get_or x 11 0) 0))

  pub tested : length x ≡ packed_bytes → eqb (get_or x 0 0) 1 && others_pass ≡ is_packed x
  unfolding is_packed
  tested h = rw (eq-eqb (length x) packed_bytes h)

  module _ (h : is_packed x ≡ true) where
    pub long : length x ≡ packed_bytes
    unfolding is_packed
    long = eqb-true (length x) packed_bytes (both (eqb (length x) packed_bytes) _ h).0

    pub mark : get_or x 0 0 ≡ 1
    unfolding is_packed
    mark = eqb-true (get_or x 0 0) 1 (both (eqb (get_or x 0 0) 1) _ (both (eqb (length x) packed_bytes) _ h).1).0

    -- letter, bar and zeros
    others : others_pass ≡ true
    unfolding is_packed
    others = (both (eqb (get_or x 0 0) 1) _ (both (eqb (length x) packed_bytes) _ h).1).1

    pub letter : get_or x 2 0 ≤ 1
    letter = leb-true (get_or x 2 0) 1 (both (leb (get_or x 2 0) 1) _ others).0

    told : leb (get_or x 9 0) 1 && (eqb (get_or x 10 0) 0 && eqb (get_or x 11 0) 0) ≡ true
    told = (both (leb (get_or x 2 0) 1) _ others).1

    pub bar : get_or x 9 0 ≤ 1
    bar = leb-true (get_or x 9 0) 1 (both (leb (get_or x 9 0) 1) _ told).0

    pub zeros : (get_or x 10 0 ≡ 0) × (get_or x 11 0 ≡ 0)
    zeros =
        let z = both (eqb (get_or x 10 0) 0) (eqb (get_or x 11 0) 0) (both (leb (get_or x 9 0) 1) _ told).1 in
        (eqb-true (get_or x 10 0) 0 z.0, eqb-true (get_or x 11 0) 0 z.1)

  pub totals : (at : ℕ) {n m : ℕ} → n ≡ value_at 8 at x → m ≡ value_at 8 (at + 8) x → record { count = n; sum = m } ≡ totals_at at x
  totals at p q = rw (p, q)

  -- a tally of bytes and numbers, and bytes in a row
  abbrev pub tally_of : Totals → Totals → ℕ → List ℕ → Tally
  tally_of a r z id =
      record {
        phase = get_or x 1 0;
        told = record { kind = get_or x 8 0; barred = eqb (get_or x 9 0) 1 };
        letter = eqb (get_or x 2 0) 1;
        code = get_or x 3 0;
        accepted = a;
        refused = r;
        zeros = z;
        id = id;
      }

  -- each field at its place
  pub tally_fields : {z : ℕ} {a r : Totals} {id : List ℕ} → a ≡ totals_at 20 x → r ≡ totals_at 36 x → id ≡ take 25 (drop 68 x) → z ≡ value_at 8 52 x
      → tally_of a r z id ≡ tally_in x
  unfolding tally_in
  tally_fields a r i z = rw (a, r, i, z)

  pub fields : {c : Tally} {held : List ℕ} {d o f : ℕ} → c ≡ tally_in x → held ≡ take longest (drop 93 x) → d ≡ value_at 4 4 x → o ≡ value_at 8 12 x
      → f ≡ value_at 8 60 x → parts_of d o c f held ≡ session_in x
  unfolding session_in
  fields c h d o f = rw (c, h, d, o, f)

  pub packed : {b : Bool} → b ≡ is_packed x → b ≡ true → {s : Session} → s ≡ session_in x → s ≡ unpacked x
  unfolding unpacked
  packed e p q = rw (sym e ∙ p) q

  -- no day is 0
  none_opened : (opened 0 x).next ≡ closed_session
  unfolding opened open_refused is_date
  none_opened = refl

  pub no_session : {b : Bool} → b ≡ is_packed x → b ≡ false → (o : Taken) → o ≡ opened 0 x → o.next ≡ unpacked x
  unfolding unpacked
  no_session e p o q = rw (sym e ∙ p) (ap (λ (w : Taken). w.next) q ∙ none_opened)
