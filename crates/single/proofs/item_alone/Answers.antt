-- `single::item_alone` meets its contract: a bad letter ends it, else the fields do.
-- Assumes nothing.
use mathlib.Core.Path.{sym, ◌∙◌}
use native.Mathlib.Omega.{arith}
use borrow.Author.Rules.{rules}
use Rattle.std.proofs.lemmas.Grind.{common_steps}
use Rattle.lists.specs.Banks.{found_in}
use Rattle.single.proofs.Fields.{item_ended, item_went_on}
use Rattle.single.proofs.item_alone.Goals as goal

pub returns-in_err-item_letters : goal.returns-in_err-item_letters
returns-in_err-item_letters c =
    grind (
      arith,
      common_steps,
      item_ended c.args.kind c.args.e (found_in c.args.banks.now) c.args.k c.args.r.now _
          (sym c.item_letters.ensures ∙ c.in_err-item_letters.was),
    )

pub returns : goal.returns
returns c =
    rw (c.item_named.ensures, c.all_findings.ensures)
    (item_went_on c.args.kind c.args.e (found_in c.args.banks.now) c.args.k c.args.r.now (search rules) _
    (sym c.item_letters.ensures ∙ c.in_ok-item_letters.was))
