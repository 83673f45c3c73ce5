-- `cover::codes::last_code` meets its contract: by the totals counted.
-- Assumes nothing.
use mathlib.Core.Path.{refl, ap, ◌∙◌}
use native.Mathlib.Omega.{arith}
use Rattle.answers.specs.Fedjel.{items_in}
use Rattle.answers.proofs.Form.{items}
use Rattle.cover.specs.Sums.{totals_to}
use Rattle.cover.proofs.Sums.{totals_low}
use Rattle.cover.proofs.Totals.{counted}
use Rattle.cover.proofs.codes.last_code.Goals as goal

pub overflow_add-all : goal.overflow_add-all
overflow_add-all c = omega (arith, totals_low _ _ c.totals-a.ensures, totals_low _ _ c.totals-b.ensures)

pub returns : goal.returns
returns c =
    let m = c.args.f.now.message.now in
    let n = c.count.ensures in
    let i = ap items_in c.items-items.ensures ∙ items m in
    let a = c.totals-a.ensures ∙ ap (totals_to 0x32) i in
    let b = c.totals-b.ensures ∙ ap (totals_to 0x33) i in
    c.foot_code.ensures ∙ counted c.args.faulty m c.requires a b n refl c.foot.ensures
