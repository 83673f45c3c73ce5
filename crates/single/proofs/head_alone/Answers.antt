-- `single::head_alone` meets its contract: a bad letter ends it, else the fields do.
-- Assumes nothing.
use mathlib.Core.Path.{sym, ◌∙◌}
use native.Mathlib.Omega.{arith}
use borrow.Author.Rules.{rules}
use Rattle.std.proofs.lemmas.Grind.{common_steps}
use Rattle.lists.specs.Banks.{found_in}
use Rattle.single.proofs.Fields.{head_ended, head_went_on}
use Rattle.single.proofs.head_alone.Goals as goal

pub returns-in_err-head_letters : goal.returns-in_err-head_letters
returns-in_err-head_letters c =
    grind (
      arith,
      common_steps,
      head_ended c.args.e (found_in c.args.banks.now) c.args.known.now c.args.r.now _
          (sym c.head_letters.ensures ∙ c.in_err-head_letters.was),
    )

pub returns : goal.returns
returns c =
    rw (c.head_named.ensures, c.all_findings.ensures)
    (head_went_on c.args.e (found_in c.args.banks.now) c.args.known.now c.args.r.now (search rules) _
    (sym c.head_letters.ensures ∙ c.in_ok-head_letters.was))
