-- The rules of a message are those that 01's kinds of fault give: no code of either kind's tables tells the finer kinds apart (02 #102).
-- Assumes nothing.
use mathlib.Core.Path.{◌≡◌, ap, fun_ext, ◌∙◌}
use mathlib.Core.Bool.{Bool}
use mathlib.Core.List.{List, map}
use Prim.Native.Nat.{ℕ}
use Rattle.base.specs.Each.{Each}
use Rattle.frame.specs.declared.Found.{Found}
use Rattle.frame.specs.declared.Told.{Told}
use Rattle.findings.specs.Codes.{Code, Ü, T, Rule, always}
use Rattle.findings.specs.Before.{rule_before}
use Rattle.findings.proofs.Before.{Alike, always_alike, else_alike, whole_before, alone_before}
use Rattle.atutal.specs.Tables as atutal
use Rattle.beszed.specs.Tables as beszed
use Rattle.kinds.specs.Kinds.{kind_of, told_of, tables}
use Rattle.kinds.specs.Codes.{head_rules, item_rules, head_code_by, head_code, item_found_by, item_found, under_bar, item_told, rules_with, rules_by}
use Rattle.kinds.specs.Codes.{rules_before}
use Rattle.kinds.proofs.Tables.{of_both}

-- each rule's codes are shared
abbrev AllAlike : List Rule → Type 0
AllAlike = Each (λ r. Alike r.code)

same_head_code : (rs : List Rule) → AllAlike rs → (r : List ℕ) → head_code_by rs r ≡ head_code_by (map rule_before rs) r
same_head_code rs h r = rw (whole_before rs h)

same_item_found : (rs : List Rule) → AllAlike rs → (r : List ℕ) → item_found_by rs r ≡ item_found_by (map rule_before rs) r
same_item_found rs h r = rw (whole_before rs h, alone_before rs h)

module _ (e : ℕ) (is_listed : ℕ → Bool) where
  alike : (kind k : ℕ) (known r : List ℕ) → AllAlike ((tables kind e is_listed).head known r) × AllAlike ((tables kind e is_listed).item k r)
  unfolding tables atutal.head_rules atutal.item_rules beszed.head_rules beszed.item_rules
  alike kind k known r =
      let one : (c : Code) → Alike (always c) = always_alike in
      let place = else_alike (T 39) (T 32) in
      let amount = else_alike (Ü 34) (T 16) in
      of_both e is_listed (λ t. AllAlike (t.head known r) × AllAlike (t.item k r)) (
        (one _, (one _, (one _, (one _, (one _, (one _, (one _, (one _, (one _, (one _, tt)))))))))),
        (one _, (place, (one _, (amount, (one _, (one _, (one _, (one _, tt)))))))),
      ) (
        (one _, (one _, (one _, (one _, (one _, (one _, (one _, (one _, (one _, (one _, (one _, (one _, tt)))))))))))),
        (one _, (place, (amount, (one _, (one _, (one _, (one _, tt))))))),
      )
      kind

  head_before : (known r : List ℕ) → head_code e is_listed known r ≡ head_code_by (map rule_before (head_rules e is_listed known r)) r
  unfolding head_code head_rules
  head_before known r = same_head_code (head_rules e is_listed known r) (alike (kind_of r) 0 known r).0 r

  item_before : (kind k : ℕ) (r : List ℕ) → item_found kind e is_listed k r ≡ item_found_by (map rule_before (item_rules kind e is_listed k r)) r
  unfolding item_found item_rules
  item_before kind k r = same_item_found (item_rules kind e is_listed k r) (alike kind k r r).1 r

  -- so all that is defined by a message's rules is as before: verdict, code table, closing, reply, slip
  pub rules_before_lem : (known : List ℕ) (is_barred : ℕ → Bool) → rules_by e is_listed known is_barred ≡ rules_before e is_listed known is_barred
  rules_before_lem known is_barred =
      ap (λ (h : List ℕ → ℕ). rules_with (told_of is_barred) h (λ told k r. item_told told e is_listed k r)) (fun_ext (head_before known))
      ∙ ap (λ (i : Told → ℕ → List ℕ → Found). rules_with (told_of is_barred) (λ r. head_code_by (map rule_before (head_rules e is_listed known r)) r) i)
      (fun_ext (λ told. fun_ext (λ k. fun_ext (λ r. ap (under_bar told.barred) (item_before told.kind k r)))))
