-- `judge::ended` meets its contract: the phase says what becomes of the bytes that are left.
-- Assumes nothing.
use mathlib.Core.Path.{◌≡◌, ap, ◌∙◌}
use mathlib.Core.List.{List}
use Prim.Native.Nat.{ℕ, ◌≤◌}
use native.Mathlib.Nat.{zero-add}
use native.Mathlib.Omega.{arith}
use lib.ListN.{length, take}
use Rattle.base.specs.Bytes.{over}
use Rattle.text.specs.Text.{with_bytes}
use Rattle.text.proofs.At.{fits}
use Rattle.frame.specs.declared.Tally.{Tally}
use Rattle.judge.specs.Session.{longest, pad}
use Rattle.judge.specs.Inner.{Partial, EndedAs}
use Rattle.judge.proofs.Held.{over_front, size_most}
use Rattle.judge.proofs.Turn.{left_held, left_none, left_break, left_over}
use Rattle.judge.proofs.ended.Goals as goal

module _ (c : Tally) (h x : List ℕ) (l : length h ≡ longest) (r : Partial c x) (p : c.phase ≤ 1) (h₁ : List ℕ) (q : h₁ ≡ with_bytes h x) where
  room : length x ≤ longest
  room = omega (arith, r.early p, size_most c.phase x)

  put : h₁ ≡ over h 0 x
  put = q ∙ fits h x (omega (arith, room))

  front : take (length x) h₁ ≡ x
  front = ap (take (length x)) put ∙ rw zero-add at (over_front h 0 x (omega arith))

  held : (h₂ : List ℕ) → h₂ ≡ pad (take (length x) h₁) → EndedAs c x (record { tally = c; fill = length x }) h₂
  held h₂ z = left_held c h₂ x p (r.early p) (z ∙ ap pad front)

pub cleared-requires : goal.cleared-requires
cleared-requires c = room c.args.tally c.args.held.now c.args.x.now c.told-held c.requires c.if-tally-le1.true c.put.new.out c.put.ensures.bytes

pub returns-then-tally-le1 : goal.returns-then-tally-le1
returns-then-tally-le1 c =
    held c.args.tally c.args.held.now c.args.x.now c.told-held c.requires c.if-tally-le1.true c.put.new.out c.put.ensures.bytes
    c.cleared.new.held c.cleared.ensures

pub returns-then-x-gt0 : goal.returns-then-x-gt0
returns-then-x-gt0 c =
    left_break c.args.tally c.cleared-2.new.held c.cleared-2.ensures c.args.x.now c.if-tally-eq2.true c.if-x-gt0.true c.phased.result
    c.phased.ensures

pub returns-else-x-gt0 : goal.returns-else-x-gt0
returns-else-x-gt0 c = left_none c.args.tally c.cleared-2.new.held c.cleared-2.ensures c.args.x.now c.if-x-gt0.false

pub returns-else-tally-eq2 : goal.returns-else-tally-eq2
returns-else-tally-eq2 c =
    left_over c.args.tally c.cleared-2.new.held c.cleared-2.ensures c.args.x.now c.if-tally-le1.false c.if-tally-eq2.false c.requires.phase
