-- `lines::slip::put_front` meets its contract: two lines, one after the other.
-- Assumes nothing.
use mathlib.Core.Path.{◌≡◌}
use mathlib.Core.List.{List, ◌++◌}
use Prim.Native.Nat.{ℕ, ◌+◌, ◌≤◌}
use native.Mathlib.Omega.{arith}
use lib.ListN.{length}
use Rattle.base.specs.Bytes.{ascii}
use Rattle.base.specs.Put.{Put}
use Rattle.base.proofs.Put.{front, room, both}
use Rattle.text.proofs.At.{PutAt, puts}
use Rattle.lines.specs.Slip.{code_width, line, kind_line, front_lines}
use Rattle.lines.proofs.slip.put_front.Goals as goal

module _ (x : List ℕ) (kind code : ℕ) (h : length (front_lines kind code) ≤ length x) where
  abbrev message : List ℕ
  message = line (ascii "MESSAGE ") (code_width code) code

  fits : 0 + length (kind_line kind ++ message) ≤ length x
  fits = omega arith

  module _ {d : List ℕ} (e : d ≡ kind_line kind) {i : ℕ} {y : List ℕ} (p : PutAt x 0 d i y) (w : ℕ) (f : w ≡ code_width code) where
    kind_put : Put x 0 (kind_line kind) i y
    kind_put = puts x 0 (kind_line kind) (front (length x) 0 (kind_line kind) message fits) (rw e at p)

    second : i + length (line (ascii "MESSAGE ") w code) ≤ length y
    second = rw f (room kind_put message fits)

    all : {r : ℕ} {z : List ℕ} → Put y i (line (ascii "MESSAGE ") w code) r z → Put x 0 (front_lines kind code) r z
    all q = both kind_put message fits (rw f at q)

pub put_line-requires : goal.put_line-requires
put_line-requires c =
    let w = c.code_width in (
      second c.args.out.now c.args.kind c.args.code c.requires c.kind_line.ensures (c.put_at-i.ensures.place, c.put_at-i.ensures.bytes)
          w.result w.ensures.0,
      w.ensures.2,
    )

pub returns : goal.returns
returns c =
    let w = c.code_width in
    all c.args.out.now c.args.kind c.args.code c.requires c.kind_line.ensures (c.put_at-i.ensures.place, c.put_at-i.ensures.bytes) w.result
    w.ensures.0 c.put_line.ensures
