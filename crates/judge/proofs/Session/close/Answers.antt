-- `judge::Session::close` meets its contract: an open session that isn't overflown has a phase that closing knows.
-- Assumes nothing.
use mathlib.Core.Path.{◌≡◌, sym, ◌∙◌}
use mathlib.Core.Bool.{Bool, true}
use Prim.Native.Nat.{◌≤◌}
use native.Mathlib.Omega.{arith}
use Rattle.judge.specs.declared.Session.{Session}
use Rattle.judge.specs.Session.{in_range}
use Rattle.judge.proofs.Held.{in_range_phase}
use Rattle.judge.proofs.Session.close.Goals as goal

module _ (s : Session) (b : Bool) (e : b ≡ in_range s) where
  in_phase : b ≡ true → (s.tally.phase ≡ 4 → ⊥) → s.tally.phase ≤ 3
  in_phase f p = omega (arith, in_range_phase s (sym e ∙ f), p)

pub closing_of-requires : goal.closing_of-requires
closing_of-requires c = in_phase c.args.self c.in_range.result c.in_range.ensures c.if-not-in_range.false c.if-self-eq4.false
