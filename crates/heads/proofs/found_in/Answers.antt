-- `heads::found_in` meets its contract: the code of the fields in one row is that of the table of the head's kind.
-- Assumes nothing.
use mathlib.Core.Path.{◌≡◌}
use mathlib.Core.Bool.{Bool, false, not}
use mathlib.Core.List.{List}
use Prim.Native.Nat.{ℕ}
use lib.ListN.{length}
use borrow.Author.Rules.{rules}
use borrow.Author.Tests.{eq-eqb, ne_eqb}
use native.Mathlib.Omega.{arith}
use Rattle.std.proofs.lemmas.Grind.{common_steps}
use Rattle.base.specs.Bytes.{field}
use Rattle.text.specs.Text.{is_text}
use Rattle.lists.specs.Banks.{found_in}
use Rattle.findings.specs.Codes.{first_whole, code_of}
use Rattle.kinds.specs.Codes.{head_letter, head_code}
use Rattle.heads.specs.Heads.{head_found, head_fields, head_rules_of}
use Rattle.heads.proofs.Tables.{same_code}
use Rattle.heads.proofs.found_in.Goals as goal

module _ (e : ℕ) (is_listed : ℕ → Bool) (known r : List ℕ) where
  -- another length
  broken : (length r ≡ 174 → ⊥) → record { letter = false; code = 26 } ≡ head_found e is_listed known r
  unfolding head_found head_letter head_code
  broken f = simp (ne_eqb (length r) 174 f)

  -- a head
  whole : length r ≡ 174 → {t : Bool} → t ≡ is_text (field 70 174 r) → {n : ℕ} → n ≡ first_whole (head_rules_of (head_fields e is_listed known r))
      → record { letter = not t; code = n } ≡ head_found e is_listed known r
  unfolding head_found head_letter head_code
  whole h p q = rw (eq-eqb (length r) 174 h, p, q, same_code e is_listed known r)

pub returns-in_default : goal.returns-in_default
returns-in_default c = broken c.args.e (found_in c.args.banks.now) c.args.known.now c.args.r.now (λ h. search rules)

pub returns : goal.returns
returns c =
    let h : length c.args.r.now ≡ 174 = search rules in
    let n : c.unwrap_or-code.result ≡ code_of c.coded.result = grind (arith, common_steps) in
    whole c.args.e (found_in c.args.banks.now) c.args.known.now c.args.r.now h (search rules) (search rules)
