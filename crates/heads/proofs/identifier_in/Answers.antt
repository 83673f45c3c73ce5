-- `heads::identifier_in` meets its contract: a whole head has its identifier.
-- Assumes nothing.
use mathlib.Core.Path.{◌≡◌, ap, ◌∙◌}
use mathlib.Core.Bool.{Bool, not}
use mathlib.Core.List.{List}
use Prim.Native.Nat.{ℕ}
use native.Mathlib.Omega.{arith}
use lib.ListN.{length}
use borrow.Author.Rules.{rules}
use borrow.Author.Tests.{le-leb}
use Rattle.base.specs.Bytes.{field}
use Rattle.lists.specs.Known.{is_known}
use Rattle.frame.specs.Records.{id_of}
use Rattle.findings.specs.declared.Kind.TheVariants.{Known}
use Rattle.findings.specs.Findings.{Finding, Right, unless}
use Rattle.fields.specs.Fields.{identifier_found}
use Rattle.heads.proofs.identifier_in.Goals as goal

whole_id : (r : List ℕ) → length r ≡ 174 → id_of r ≡ field 10 34 r
unfolding id_of
whole_id r h = simp (le-leb 34 (length r) (omega arith))

module _ (known r : List ℕ) (h : length r ≡ 174) where
  looked_up : {id : List ℕ} → id ≡ id_of r → {k : Bool} → k ≡ is_known known id → (f : Finding) → f ≡ unless (not k) Known Right
      → f ≡ identifier_found known (field 10 34 r)
  looked_up i e f g = g ∙ ap (λ (t : Bool). unless (not t) Known Right) (e ∙ ap (is_known known) (i ∙ whole_id r h))

pub returns : goal.returns
returns c = looked_up c.args.known.now c.args.r.now (search rules) c.identifier.ensures c.is_known.ensures c.found.result c.found.ensures
