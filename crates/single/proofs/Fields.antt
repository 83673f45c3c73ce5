-- The answer on a head or an item is that of its fields in one row: what is found there names the field that the table of its kind names.
-- Assumes nothing.
use mathlib.Core.Path.{◌≡◌, sym, ap, ◌∙◌}
use mathlib.Core.Bool.{Bool}
use mathlib.Core.List.{List}
use lib.ListN.{length}
use borrow.Author.Tests.{eq-eqb}
use Rattle.std.specs.Prelude.{Result, Ok, Err, ⊤}
use Prim.Native.Nat.{ℕ}
use Rattle.findings.specs.declared.Answer.{Answer}
use Rattle.findings.specs.declared.Answer.TheVariants.{Accepted}
use Rattle.findings.specs.Codes.{Rule}
use Rattle.findings.specs.Naming.{first_named, named_or, naming, else_answer}
use Rattle.findings.proofs.Naming.{in_parts, is_named_or, is_first_named}
use Rattle.kinds.specs.Codes.{head_rules, item_rules}
use Rattle.heads.specs.Heads.{head_fields, head_rules_of, head_findings}
use Rattle.heads.proofs.Tables as heads
use Rattle.items.specs.Items.{item_fields, rules_of, item_findings}
use Rattle.items.proofs.Tables as items
use Rattle.single.specs.Single.{head_texts, item_texts, head_answer, item_answer}

pub head_is : (e : ℕ) (is_listed : ℕ → Bool) (known r : List ℕ)
    → named_or (head_texts r) (first_named (head_rules_of (head_fields e is_listed known r))) ≡ head_answer e is_listed known r
unfolding head_answer
head_is e is_listed known r = rw (heads.same_name e is_listed known r) (in_parts (head_texts r) (head_rules e is_listed known r))

pub item_is : (kind e : ℕ) (is_listed : ℕ → Bool) (k : ℕ) (r : List ℕ)
    → named_or (item_texts r) (first_named (rules_of (item_fields kind e is_listed k r))) ≡ item_answer kind e is_listed k r
unfolding item_answer
item_is kind e is_listed k r = rw (items.same_name kind e is_listed k r) (in_parts (item_texts r) (item_rules kind e is_listed k r))

-- two judgings one after the other: the first one's answer where it ends there, else the second's
ended : (rs : List Rule) (a x : Answer) → naming rs ≡ Err x → x ≡ named_or rs a
ended rs a x g = sym (ap (λ (t : Result ⊤ Answer). else_answer t a) g) ∙ is_named_or rs a

went_on : (rs ss : List Rule) (u : ⊤) → naming rs ≡ Ok u → else_answer (naming ss) Accepted ≡ named_or rs (first_named ss)
went_on rs ss u g = is_first_named ss ∙ (sym (ap (λ (t : Result ⊤ Answer). else_answer t (first_named ss)) g) ∙ is_named_or rs (first_named ss))

module _ (e : ℕ) (is_listed : ℕ → Bool) (known r : List ℕ) where
  pub head_ended : (x : Answer) → naming (head_texts r) ≡ Err x → x ≡ head_answer e is_listed known r
  head_ended x g = ended (head_texts r) (first_named (head_rules_of (head_fields e is_listed known r))) x g ∙ head_is e is_listed known r

  pub head_went_on : length r ≡ 174 → (u : ⊤) → naming (head_texts r) ≡ Ok u
      → else_answer (naming (head_rules_of (head_findings e is_listed known r))) Accepted ≡ head_answer e is_listed known r
  unfolding head_findings
  head_went_on h u g = rw (eq-eqb (length r) 174 h) (went_on (head_texts r) (head_rules_of (head_fields e is_listed known r)) u g ∙ head_is e is_listed known r)

module _ (kind e : ℕ) (is_listed : ℕ → Bool) (k : ℕ) (r : List ℕ) where
  pub item_ended : (x : Answer) → naming (item_texts r) ≡ Err x → x ≡ item_answer kind e is_listed k r
  item_ended x g = ended (item_texts r) (first_named (rules_of (item_fields kind e is_listed k r))) x g ∙ item_is kind e is_listed k r

  pub item_went_on : length r ≡ 249 → (u : ⊤) → naming (item_texts r) ≡ Ok u
      → else_answer (naming (rules_of (item_findings kind e is_listed k r))) Accepted ≡ item_answer kind e is_listed k r
  unfolding item_findings
  item_went_on h u g = rw (eq-eqb (length r) 249 h) (went_on (item_texts r) (rules_of (item_fields kind e is_listed k r)) u g ∙ item_is kind e is_listed k r)
