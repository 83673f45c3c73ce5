-- The rows of the fields of a head give what the table of its kind gives: a row that is right has no code and names nothing.
-- Assumes nothing.
use mathlib.Core.Path.{◌≡◌, refl}
use mathlib.Core.Bool.{Bool, true, false, cond}
use mathlib.Core.List.{List}
use Prim.Native.Nat.{ℕ}
use Rattle.findings.specs.Codes.{Rule, first_whole}
use Rattle.findings.specs.Naming.{first_named}
use Rattle.atutal.specs.Tables as atutal
use Rattle.beszed.specs.Tables as beszed
use Rattle.kinds.specs.Kinds.{kind_of, is_beszed, Tables, tables}
use Rattle.kinds.specs.Codes.{head_rules}
use Rattle.heads.specs.Heads.{atutal_fields, as_beszed, head_fields, head_rules_of}

module _ (e : ℕ) (is_listed : ℕ → Bool) (known r : List ℕ) where
  -- what two lists of rows both give
  module _ {A : Type 0} (g : List Rule → A)
      (b : g (head_rules_of (as_beszed r (atutal_fields e is_listed known r))) ≡ g (beszed.head_rules e is_listed known r))
      (a : g (head_rules_of (atutal_fields e is_listed known r)) ≡ g (atutal.head_rules e is_listed known r)) where
    by_kind : g (head_rules_of (head_fields e is_listed known r)) ≡ g (head_rules e is_listed known r)
    unfolding head_fields head_rules tables
    by_kind = go (is_beszed (kind_of r))
      where
        go : (t : Bool)
            → g (head_rules_of (cond t (as_beszed r (atutal_fields e is_listed known r)) (atutal_fields e is_listed known r)))
            ≡ g ((cond {A = Tables} t
            (record { head = beszed.head_rules e is_listed; item = beszed.item_rules e is_listed })
            (record { head = atutal.head_rules e is_listed; item = atutal.item_rules is_listed })).head known r)
        go true = b
        go false = a

  pub same_code : first_whole (head_rules_of (head_fields e is_listed known r)) ≡ first_whole (head_rules e is_listed known r)
  unfolding head_rules_of as_beszed atutal_fields atutal.head_rules beszed.head_rules
  same_code = by_kind first_whole refl refl

  pub same_name : first_named (head_rules_of (head_fields e is_listed known r)) ≡ first_named (head_rules e is_listed known r)
  unfolding head_rules_of as_beszed atutal_fields atutal.head_rules beszed.head_rules
  same_name = by_kind first_named refl refl
