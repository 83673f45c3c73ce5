-- `reading::read_status` meets its contract: refusals 10 and 9, or what the STATUS says.
-- Assumes nothing.
use mathlib.Core.List.{List}
use mathlib.Core.Bool.{true, false, ◌&&◌, and_assoc}
use mathlib.Core.Path.{◌≡◌, sym, ap, ◌∙◌}
use Prim.Native.Nat.{ℕ, ◌+◌, ◌-◌, ◌*◌, ◌%◌, ◌≤◌, ◌<◌}
use native.Mathlib.Omega.{arith}
use lib.ListN.{length}
use lib.Dec.{leb, eqb}
use borrow.Author.Tests.{le-leb, lt-leb, leb-true, eqb-true}
use Rattle.lent.specs.declared.Refusal.TheVariants.{Room, Malformed}
use Rattle.base.proofs.Every.{both}
use Rattle.std.specs.Prelude.{Ok, Err}
use Rattle.base.specs.Bytes.{over}
use Rattle.reading.specs.Checking.{has_lengths, parts_right}
use Rattle.reading.specs.Reading.{count_of, codes_in, status_in, is_status, read_of, table_read, ReadAs}
use Rattle.frame.specs.declared.Status.{Status}
use Rattle.reading.proofs.read_status.Goals as goal

module _ (x : List ℕ) where
  split : is_status x ≡ has_lengths x && parts_right x
  unfolding is_status has_lengths parts_right
  split = rw and_assoc

  not_long : has_lengths x ≡ false → is_status x ≡ false
  not_long e = rw (split, e)

  module _ (h : has_lengths x ≡ true) where
    not_parts : parts_right x ≡ false → is_status x ≡ false
    not_parts e = rw (split, h, e)

    is : parts_right x ≡ true → is_status x ≡ true
    is e = rw (split, h, e)

    lengths : length x ≡ 104 + 65 * count_of x
    unfolding has_lengths
    lengths =
        let k = both (leb 104 (length x)) (eqb ((length x - 104) % 65) 0) h in
        omega (arith, leb-true 104 (length x) k.0, eqb-true ((length x - 104) % 65) 0 k.1)

  module _ (t : List ℕ) where
    malformed : is_status x ≡ false → ReadAs x t (Err Malformed) t
    unfolding read_of table_read
    malformed e = record { result = rw e; bytes = rw e }

    module _ (e : is_status x ≡ true) where
      no_room : length t < count_of x → ReadAs x t (Err Room) t
      unfolding read_of table_read
      no_room h =
          let f = lt-leb (count_of x) (length t) h in
          record { result = rw (e, f); bytes = rw (e, f) }

      done : count_of x ≤ length t → {s : Status} → s ≡ status_in x → {u : List ℕ} → u ≡ over t 0 (codes_in x) → ReadAs x t (Ok s) u
      unfolding read_of table_read
      done h p q =
          let f = le-leb (count_of x) (length t) h in
          record { result = rw (e, f, p); bytes = rw (e, f) q }

  -- as many as the status says
  said : {s : Status} → s ≡ status_in x → s.references ≡ count_of x
  unfolding status_in
  said e = ap (λ (s : Status). s.references) e

pub returns-then-not-has_lengths : goal.returns-then-not-has_lengths
returns-then-not-has_lengths c = malformed c.args.bytes.now c.args.table.now
    (not_long c.args.bytes.now (sym c.has_lengths.ensures ∙ c.if-not-has_lengths.true))

pub status_in-s-requires : goal.status_in-s-requires
status_in-s-requires c = omega (arith, lengths c.args.bytes.now (sym c.has_lengths.ensures ∙ c.if-not-has_lengths.false))

pub are_parts-requires : goal.are_parts-requires
are_parts-requires c = (lengths c.args.bytes.now (sym c.has_lengths.ensures ∙ c.if-not-has_lengths.false), c.status_in-s.ensures)

pub returns-then-not-are_parts : goal.returns-then-not-are_parts
returns-then-not-are_parts c = malformed c.args.bytes.now c.args.table.now (not_parts c.args.bytes.now
    (sym c.has_lengths.ensures ∙ c.if-not-has_lengths.false) (sym c.are_parts.ensures ∙ c.if-not-are_parts.true))

pub returns-then-s-table : goal.returns-then-s-table
returns-then-s-table c = no_room c.args.bytes.now c.args.table.now
    (is c.args.bytes.now (sym c.has_lengths.ensures ∙ c.if-not-has_lengths.false) (sym c.are_parts.ensures ∙ c.if-not-are_parts.false))
    (omega (arith, said c.args.bytes.now c.status_in-s.ensures, c.if-s-table.true))

pub put_codes-requires : goal.put_codes-requires
put_codes-requires c = (
  omega (arith, lengths c.args.bytes.now (sym c.has_lengths.ensures ∙ c.if-not-has_lengths.false)),
  omega (arith, said c.args.bytes.now c.status_in-s.ensures, c.if-s-table.false),
)

pub returns : goal.returns
returns c = done c.args.bytes.now c.args.table.now
    (is c.args.bytes.now (sym c.has_lengths.ensures ∙ c.if-not-has_lengths.false) (sym c.are_parts.ensures ∙ c.if-not-are_parts.false))
    (omega (arith, said c.args.bytes.now c.status_in-s.ensures, c.if-s-table.false)) c.status_in-s.ensures c.put_codes.ensures
