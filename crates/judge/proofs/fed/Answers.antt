-- `judge::fed` meets its contract: the record begun, and then what follows it.
-- Assumes nothing.
use mathlib.Core.Path.{◌≡◌, refl, sym}
use Prim.Native.Nat.{ℕ, ◌-◌}
use native.Mathlib.Omega.{arith}
use lib.ListN.{get_or, set}
use lib.Seq.{length-take-le}
use Rattle.lent.specs.Lent.{Lent, lent_in}
use Rattle.frame.specs.Verdict.{Rules}
use Rattle.frame.specs.Sound.{Sound}
use Rattle.kinds.specs.Codes.{rules}
use Rattle.kinds.proofs.Instance.{sound}
use Rattle.frame.specs.Machine.{size}
use Rattle.judge.proofs.Turn.{Begun, Shown, empty_fed, begun_room, none_fed, set_long, lacks, put_most, kept_became, put_whole, put_ready}
use Rattle.judge.proofs.Turn.{all_put, short_put, long_put, long_became}
use Rattle.judge.proofs.fed.Goals.{Start}
use Rattle.judge.proofs.fed.Goals as goal

module _ (c : Start) (i : c.args.fill ≡ 0 → ⊥) where
  begun : Begun c.args.tally c.args.fill c.args.held.now c.args.table.now
  begun = record { fit = c.requires; long = c.told-held; some = omega (arith, i) }

  shown : {w : ℕ} → w ≡ size c.args.tally.phase (set c.args.held.now c.args.fill (get_or c.args.piece.now 0 0))
      → Shown c.args.tally c.args.fill c.args.held.now c.args.table.now (get_or c.args.piece.now 0 0) w
  shown q = record { begun = begun; size = q }

-- what is lent, and its rules
abbrev given : Start → Lent
given c = lent_in c.args.day c.args.lists.now

abbrev R : Start → Rules
R c = rules (given c)

abbrev ok : (c : Start) → Sound (R c)
ok c = sound (given c)

pub returns-then-fill-eq0 : goal.returns-then-fill-eq0
returns-then-fill-eq0 c =
    empty_fed (R (goal.at.returns-then-fill-eq0 c).Start) c.args.tally c.args.fill c.args.held.now c.args.table.now c.args.piece.now c.if-fill-eq0.true
    c.onward.ensures

pub cleared-requires : goal.cleared-requires
cleared-requires c = omega (arith, begun_room (begun (goal.at.cleared-requires c).Start c.if-fill-eq0.false))

pub returns-then-piece-eq0 : goal.returns-then-piece-eq0
returns-then-piece-eq0 c =
    let s = (goal.at.returns-then-piece-eq0 c).Start in
    none_fed (begun s c.if-fill-eq0.false) (R s) c.args.piece.now c.cleared.new.held c.if-piece-eq0.true c.cleared.ensures

pub bounds-held-fill : goal.bounds-held-fill
bounds-held-fill c = omega (arith, c.told-held, begun_room (begun (goal.at.bounds-held-fill c).Start c.if-fill-eq0.false))

pub overflow_sub-n : goal.overflow_sub-n
overflow_sub-n c = omega (arith, lacks (shown (goal.at.overflow_sub-n c).Start c.if-fill-eq0.false c.size_of.ensures))

pub slice_bounds-put-count : goal.slice_bounds-put-count
slice_bounds-put-count c =
    let s = (goal.at.slice_bounds-put-count c).Start in
    omega (arith, begun_room (begun s c.if-fill-eq0.false), set_long (shown s c.if-fill-eq0.false c.size_of.ensures))

pub slice_bounds-put-start : goal.slice_bounds-put-start
slice_bounds-put-start c =
    let s = (goal.at.slice_bounds-put-start c).Start in
    omega (arith, begun_room (begun s c.if-fill-eq0.false), set_long (shown s c.if-fill-eq0.false c.size_of.ensures))

pub cleared-requires-then-piece-n : goal.cleared-requires-then-piece-n
cleared-requires-then-piece-n c =
    let s = (goal.at.cleared-requires-then-piece-n c).Start in
    let d = short_put (shown s c.if-fill-eq0.false c.size_of.ensures) c.args.piece.now refl c.if-piece-eq0.false c.if-piece-n.true c.put.ensures.bytes in
    put_most d

pub returns-then-piece-n : goal.returns-then-piece-n
returns-then-piece-n c =
    let s = (goal.at.returns-then-piece-n c).Start in
    kept_became (short_put (shown s c.if-fill-eq0.false c.size_of.ensures) c.args.piece.now refl c.if-piece-eq0.false c.if-piece-n.true c.put.ensures.bytes)
    (R s) (omega (arith, c.if-piece-n.true)) c.cleared-then-piece-n.new.held c.cleared-then-piece-n.ensures

pub slice_bounds-put-count-2 : goal.slice_bounds-put-count-2
slice_bounds-put-count-2 c =
    let s = (goal.at.slice_bounds-put-count-2 c).Start in
    omega (arith, begun_room (begun s c.if-fill-eq0.false), set_long (shown s c.if-fill-eq0.false c.size_of.ensures))

pub slice_bounds-put-start-2 : goal.slice_bounds-put-start-2
slice_bounds-put-start-2 c =
    let s = (goal.at.slice_bounds-put-start-2 c).Start in
    omega (arith, begun_room (begun s c.if-fill-eq0.false), set_long (shown s c.if-fill-eq0.false c.size_of.ensures))

pub slice_bounds-put-end-3 : goal.slice_bounds-put-end-3
slice_bounds-put-end-3 c = sym (length-take-le (c.size_of.result - c.args.fill) c.args.piece.now c.if-piece-n.false)

pub shared_ref_as_front-record_read : goal.shared_ref_as_front-record_read
shared_ref_as_front-record_read c =
    let s = (goal.at.shared_ref_as_front-record_read c).Start in
    put_most (long_put (shown s c.if-fill-eq0.false c.size_of.ensures) c.args.piece.now refl c.if-piece-n.false c.put-2.ensures.bytes)

pub record_read-t-requires : goal.record_read-t-requires
record_read-t-requires c =
    let s = (goal.at.record_read-t-requires c).Start in
    record {
      ready = c.requires.ready;
      x_len = put_whole (long_put (shown s c.if-fill-eq0.false c.size_of.ensures) c.args.piece.now refl c.if-piece-n.false c.put-2.ensures.bytes) (R s) (ok s)
          (all_put (shown s c.if-fill-eq0.false c.size_of.ensures));
    }

pub onward-requires-2 : goal.onward-requires-2
onward-requires-2 c =
    let s = (goal.at.onward-requires-2 c).Start in
    let d = long_put (shown s c.if-fill-eq0.false c.size_of.ensures) c.args.piece.now refl c.if-piece-n.false c.put-2.ensures.bytes in
    record {
      ready = put_ready d (R s) (ok s) (all_put (shown s c.if-fill-eq0.false c.size_of.ensures)) c.record_read-t.ensures;
      from_in_bounds = c.if-piece-n.false;
    }

pub returns : goal.returns
returns c =
    let s = (goal.at.returns c).Start in
    long_became (shown s c.if-fill-eq0.false c.size_of.ensures) c.args.piece.now refl c.if-piece-n.false c.put-2.ensures.bytes (R s) (ok s)
    c.record_read-t.ensures c.onward-2.ensures
