-- `cover::fedjel::Fedjel::foot` meets its contract: the foot stands after the items, and is all that is left.
-- Assumes nothing.
use mathlib.Core.Path.{◌≡◌, ap, ◌∙◌}
use Prim.Native.Nat.{◌+◌, ◌-◌, ◌*◌, ◌≤◌}
use native.Mathlib.Omega.{arith}
use lib.ListN.{length, take, drop}
use borrow.Author.Rules.{rules}
use Rattle.answers.proofs.Form.{foot}
use Rattle.cover.proofs.Parts.{long, foot_long}
use Rattle.cover.proofs.fedjel.Fedjel.foot.Goals as goal

pub slice_bounds-first_chunk-count : goal.slice_bounds-first_chunk-count
slice_bounds-first_chunk-count c =
    let f = c.args.self.now in
    omega (arith, (long f.message.now f.form).exact, c.count.ensures)

pub slice_bounds-first_chunk-start : goal.slice_bounds-first_chunk-start
slice_bounds-first_chunk-start c =
    let f = c.args.self.now in
    let h : 34 + c.count.result * 72 ≤ length f.message.now = omega (arith, (long f.message.now f.form).exact, c.count.ensures) in
    search rules

pub unwrap-requires : goal.unwrap-requires
unwrap-requires c =
    let f = c.args.self.now in
    c.first_chunk.ensures.variant.1 (omega (arith, foot_long f.message.now f.form, ap length (foot f.message.now c.count.ensures)))

pub returns : goal.returns
returns c =
    let m = c.args.self.now.message.now in
    let n = c.count.result in
    let e : c.unwrap.result.now ≡ take 42 (take (length m - (34 + n * 72)) (drop (34 + n * 72) m)) = search rules in
    e ∙ ap (take 42) (foot m c.count.ensures)
