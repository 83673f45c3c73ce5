-- `packed::pack` meets its contract: another size, or all parts over what is lent.
-- Assumes nothing.
use mathlib.Core.Path.{◌≡◌, ap, ◌∙◌}
use mathlib.Core.Bool.{true}
use native.Mathlib.Omega.{arith}
use lib.ListN.{length}
use Rattle.packed.specs.Packed.{packed_bytes, PackedAs, TallyFits, Fits}
use Rattle.packed.proofs.Little.{four, eight, put_little}
use Rattle.packed.proofs.RoundTrip.{wrong_size, right_size}
use borrow.Author.Rules.{rules}
use Rattle.packed.proofs.pack.Goals.{Start}
use Rattle.packed.proofs.pack.Goals as goal

-- the session's numbers fit the types of their fields
tally-at : (c : Start) → TallyFits c.args.s.tally c.args.s.fill
tally-at c =
    record {
      accepted_count = search rules;
      accepted_sum = search rules;
      refused_count = search rules;
      refused_sum = search rules;
      zeros = search rules;
      fill = search rules;
      id = search rules;
    }

fits-at : (c : Start) → Fits c.args.s
fits-at c = record { day = search rules; room = search rules; tally = tally-at c; held = search rules }

pub returns-in_default : goal.returns-in_default
returns-in_default c =
    let start = (goal.at.returns-in_default c).Start in
    wrong_size (fits-at start) c.in_default.ensures.cases

pub returns : goal.returns
returns c =
    let start = (goal.at.returns c).Start in
    let w = c.in-Some.ensures.cases in
    let l : length c.in-Some.out.now ≡ packed_bytes = ap length w.same ∙ w.long in
    let p : PackedAs c.args.s c.in-Some.out.now true c.put_at-5.new.out =
    right_size (fits-at start) l (c.put_at.ensures.place, c.put_at.ensures.bytes)
    (put_little c.put_at.new.out 4 4 c.args.s.day (c.to_le_bytes.ensures ∙ four c.args.s.day) (c.put_at-2.ensures.place, c.put_at-2.ensures.bytes)
    (omega (arith, l, c.put_at.auto.out)))
    (put_little c.put_at-2.new.out 12 8 c.args.s.room (c.to_le_bytes-2.ensures ∙ eight c.args.s.room) (c.put_at-3.ensures.place, c.put_at-3.ensures.bytes)
    (omega (arith, l, c.put_at.auto.out, c.put_at-2.auto.out)))
    (omega (arith, l, c.put_at.auto.out, c.put_at-2.auto.out, c.put_at-3.auto.out))
    c.put_counts.ensures.bytes (c.put_at-4.ensures.place, c.put_at-4.ensures.bytes) (c.put_at-5.ensures.place, c.put_at-5.ensures.bytes)
    (omega (
      arith,
      l,
      c.put_at.auto.out,
      c.put_at-2.auto.out,
      c.put_at-3.auto.out,
      c.put_counts.auto.out,
      c.put_at-4.auto.out,
    )) in
    rw w.same at p
