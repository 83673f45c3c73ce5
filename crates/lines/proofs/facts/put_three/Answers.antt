-- `lines::facts::put_three` meets its contract: three texts, one after the other.
-- Assumes nothing.
use mathlib.Core.List.{List, ◌++◌}
use Prim.Native.Nat.{ℕ, ◌+◌, ◌≤◌}
use lib.ListN.{length}
use Rattle.base.specs.Put.{Put}
use Rattle.base.proofs.Put.{one, two, three, all_three}
use Rattle.text.proofs.At.{PutAt, puts}
use Rattle.lines.proofs.facts.put_three.Goals as goal

module _ (x : List ℕ) (a : ℕ) (d e f : List ℕ) (h : a + length (d ++ e ++ f) ≤ length x) where
  all : {i j r : ℕ} {y z u : List ℕ} → PutAt x a d i y → PutAt y i e j z → PutAt z j f r u → Put x a (d ++ e ++ f) r u
  all {i} {j} {r} {y} {z} {u} p q s =
      let first : Put x a d i y = puts x a d (one x a d e f h) p in
      let second : Put y i e j z = puts y i e (two x a d e f h first) q in
      all_three x a d e f h first second (puts z j f (three x a d e f h first second) s)

pub returns : goal.returns
returns c =
    let a = c.args in
    all a.out.now a.at a.a.now a.b.now a.c.now c.requires (c.put_at-i.ensures.place, c.put_at-i.ensures.bytes)
    (c.put_at-i-2.ensures.place, c.put_at-i-2.ensures.bytes) (c.put_at.ensures.place, c.put_at.ensures.bytes)
