-- A message is judged by the rules of its own kind alone: the verdict and the table are those by that kind's tables.
-- Assumes nothing.
use mathlib.Core.Path.{◌≡◌, refl, ap}
use mathlib.Core.Bool.{Bool}
use mathlib.Core.List.{List, [], ◌∷◌}
use Prim.Native.Nat.{ℕ, ◌+◌}
use Rattle.frame.specs.declared.Found.{Found}
use Rattle.frame.specs.declared.Told.{Told}
use Rattle.frame.specs.Records.{lengths, head_of, items_of}
use Rattle.frame.specs.Verdict.{Rules, findings, message_code, told_by, verdict, table_after}
use Rattle.frame.proofs.Alike.{Alike, same_code, same_verdict, same_table}
use Rattle.kinds.specs.Kinds.{kind_of, told_as, told_of}
use Rattle.kinds.specs.Codes.{head_rules, head_code, item_told, rules_by, rules_of_kind}

module _ (e : ℕ) (is_listed : ℕ → Bool) (known : List ℕ) (is_barred : ℕ → Bool) (m : List ℕ) where
  abbrev kind : ℕ
  kind = kind_of (head_of lengths m)

  abbrev R : Rules
  R = rules_by e is_listed known is_barred

  abbrev Own : Rules
  Own = rules_of_kind kind e is_listed known is_barred

  abbrev told : Told
  told = told_as kind is_barred (head_of lengths m)

  same_findings : (k : ℕ) (rs : List (List ℕ)) → findings R told k rs ≡ findings Own told k rs
  unfolding findings
  same_findings k [] = refl
  same_findings k (r ∷ rs) = ap (λ (fs : List Found). item_told told e is_listed k r ∷ fs) (same_findings (k + 1) rs)

  alike : Alike R Own m
  unfolding head_code head_rules told_of told_by
  alike = record { letter = refl; code = refl; foot = refl; found = same_findings 1 (items_of lengths m); kind = refl }

  pub own_code : message_code R m ≡ message_code Own m
  own_code = same_code R Own m alike

  pub own_verdict : (t : List ℕ) → verdict R t m ≡ verdict Own t m
  own_verdict = same_verdict R Own m alike

  pub own_table : (t : List ℕ) → table_after R t m ≡ table_after Own t m
  own_table = same_table R Own m alike
