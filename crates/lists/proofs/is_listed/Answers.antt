-- `lists::is_listed` meets its contract: it searches the whole list.
-- Assumes nothing.
use mathlib.Core.Path.{◌≡◌, ◌∙◌}
use lib.Seq.{take-length}
use Rattle.lists.specs.Banks.{found_in}
use Rattle.lists.proofs.Member.{exact}
use Rattle.lists.proofs.is_listed.Goals as goal

pub returns : goal.returns
returns c =
    let l = c.args.list.now in
    let x = c.args.code in
    let e : c.search.result ≡ found_in l x = c.search.ensures ∙ simp (take-length l) in
    record { halves = e; exact = λ h. e ∙ exact l x h }
