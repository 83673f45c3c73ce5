-- The invariant of the loop of `digits::fits`: what is left has no more digits than are left exactly when the whole has no more than w.
-- Assumes nothing.
use Rattle.std.proofs.Common.{◌≡◌, ◌-◌, ◌^◌, ltb}
use Rattle.digits.proofs.fits.Given as goal

abbrev pub invariant-loop : goal.invariant-loop
invariant-loop l = ltb l.left (10 ^ (l.w - l.counter)) ≡ ltb l.n (10 ^ l.w)
