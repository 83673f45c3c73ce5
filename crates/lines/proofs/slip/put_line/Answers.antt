-- `lines::slip::put_line` meets its contract: three texts, one after the other.
-- Assumes nothing.
use mathlib.Core.List.{List}
use Prim.Native.Nat.{ℕ, ◌+◌, ◌^◌, ◌≤◌, ◌<◌}
use lib.ListN.{length}
use Rattle.base.specs.Put.{Put}
use Rattle.text.proofs.At as text
use Rattle.digits.proofs.At as digits
use Rattle.lines.specs.Slip.{line_end, line}
use Rattle.lines.proofs.Puts as puts
use Rattle.lines.proofs.slip.put_line.Goals as goal

module _ (x : List ℕ) (a : ℕ) (word : List ℕ) (w n : ℕ) (h : (a + length (line word w n) ≤ length x) × (n < 10 ^ w)) where
  all : {i j r : ℕ} {y z u : List ℕ} → text.PutAt x a word i y → digits.PutAt y i w n j z → text.PutAt z j line_end r u → Put x a (line word w n) r u
  all {j = j} {z = z} p q s =
      let room = puts.rest x a word w n h.1 line_end h.0 p q in
      puts.all x a word w n h.1 line_end h.0 p q (text.puts z j line_end room s)

pub returns : goal.returns
returns c =
    let a = c.args in
    all a.out.now a.at a.word.now a.w a.n c.requires (c.put_at-i.ensures.place, c.put_at-i.ensures.bytes)
    (c.put_at-i-2.ensures.place, c.put_at-i-2.ensures.bytes) (c.put_at.ensures.place, c.put_at.ensures.bytes)
