-- What is printed is short: five lines with numbers of at most twenty digits each, or the line of a refusal.
-- Assumes nothing.
use mathlib.Core.Bool.{Bool, true, false, cond}
use Prim.Native.Nat.{ℕ, ◌≤◌}
use native.Mathlib.Omega.{arith}
use lib.Dec.{ltb}
use lib.ListN.{length, length-append}
use Rattle.digits.proofs.Figures.{figures_length}
use Rattle.lent.specs.Lent.{refusal_number}
use Rattle.lent.specs.declared.Refusal.{Refusal}
use Rattle.std.proofs.Common.{Result, Ok, Err}
use Rattle.frame.specs.declared.Closing.{Closing}
use Rattle.judge.specs.declared.Taken.{Taken}
use Rattle.lines.specs.Slip.{code_width, slip_of, refusal_line}
use Rattle.lines.proofs.Places.{few}
use Rattle.lines.proofs.Long.{slip_long}
use Rattle.slips.specs.Message.{told, closing_by, answer_of}

-- the most bytes that are printed
abbrev pub most_text : ℕ
most_text = 151

-- a code's digits
narrow : (c : ℕ) → code_width c ≤ 3
narrow c = go (ltb c 100)
  where
    go : (b : Bool) → cond b 2 3 ≤ 3
    go true = omega arith
    go false = omega arith

slip_short : (k : Closing) → length (slip_of k) ≤ most_text
slip_short k =
    let w = narrow k.code in
    let a = few k.accepted.count in
    let b = few k.accepted.sum in
    let c = few k.refused.count in
    let d = few k.refused.sum in
    let e = few k.zeros in
    omega (arith, slip_long k)

pub refusal_short : (r : Refusal) → length (refusal_line r) ≤ most_text
refusal_short r = let w = few (refusal_number r) in simp (length-append, figures_length) (omega arith)

pub told_short : (c : Result Closing Refusal) → length (told c) ≤ most_text
told_short (Ok k) = slip_short k
told_short (Err r) = refusal_short r

pub short : (t : Taken) → length (answer_of t) ≤ most_text
short t = told_short (closing_by t)
