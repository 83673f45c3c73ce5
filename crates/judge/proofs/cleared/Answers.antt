-- `judge::cleared` meets its contract: what stood before the place, and zeros.
-- Assumes nothing.
use mathlib.Core.Path.{◌≡◌, ap, ◌∙◌}
use mathlib.Core.List.{List, ◌++◌, append-nil}
use Prim.Native.Nat.{ℕ, ◌-◌, ◌≤◌}
use native.Mathlib.Omega.{arith}
use lib.ListN.{length, take, drop, replicate, length-drop, drop_of_length-le}
use lib.Seq.{length-take-le}
use borrow.Rule.Slice.PartMut.{put_mid}
use Rattle.judge.specs.Session.{longest, pad}
use Rattle.judge.proofs.cleared.Goals as goal

module _ (h : List ℕ) (from : ℕ) (l : length h ≡ longest) (k : from ≤ longest) where
  rest : length (drop from h) ≡ longest - from
  rest = length-drop from h ∙ ap (λ (n : ℕ). n - from) l

  part : length (take (longest - from) (drop from h)) ≡ longest - length (take from h)
  part =
      let n = length-take-le from h (omega (arith, l, k)) in
      length-take-le (longest - from) (drop from h) (omega (arith, rest, l)) ∙ omega (arith, l, n)

  zeros : (ys : List ℕ) → ys ≡ replicate (length (take (longest - from) (drop from h))) 0
      → put_mid from (longest - from) h ys ≡ pad (take from h)
  unfolding pad
  zeros ys q =
      ap (λ (x : List ℕ). take from h ++ (ys ++ x)) (drop_of_length-le (drop from h) (omega (arith, rest, l)))
      ∙ ap (λ (x : List ℕ). take from h ++ x) (append-nil ys ∙ q ∙ ap (λ (n : ℕ). replicate n 0) part)

pub returns : goal.returns
returns c =
    zeros c.args.held.now c.args.from c.told-held c.requires c.fill.new.self (c.fill.ensures.after (λ y e. e))
