-- The number of a refusal of a single record is that of the first row whose condition holds; where none does, the answer names a field or accepts.
-- Assumes nothing.
use mathlib.Core.Path.{◌≡◌, refl, sym, ap, ◌∙◌}
use mathlib.Core.Bool.{Bool, true, false, cond, not, ◌||◌}
use mathlib.Core.List.{List, [], ◌∷◌, ◌++◌}
use Prim.Native.Nat.{ℕ, ◌+◌, ◌*◌}
use native.Mathlib.Omega.{arith}
use lib.ListN.{length}
use lib.Dec.{eqb}
use borrow.Author.Tests.{eqb-true}
use Rattle.std.specs.Prelude.{Ok, Err}
use Rattle.base.specs.Tables.{first_given}
use Rattle.base.proofs.Tables.{ByRows, asked}
use Rattle.calendar.specs.Calendar.{is_date}
use Rattle.lists.specs.Banks.{found_in}
use Rattle.lent.specs.Lent.{Lent, list_refused, by}
use Rattle.lent.specs.Refusals.{list_refusals}
use Rattle.lent.specs.declared.Refusal.TheVariants.{NotADay, Malformed}
use Rattle.lent.proofs.Refusals.{after_lists, lists_pass}
use Rattle.frame.specs.Records.{lengths}
use Rattle.findings.specs.Findings.{Finding}
use Rattle.findings.specs.declared.Kind.{Kind}
use Rattle.findings.specs.declared.Answer.{Answer}
use Rattle.findings.specs.declared.Answer.TheVariants.{Refused}
use Rattle.findings.specs.Codes.{Rule}
use Rattle.findings.specs.Naming.{named_else, first_named}
use Rattle.findings.proofs.Naming.{in_parts}
use Rattle.heads.specs.declared.HeadFindings.{HeadFindings}
use Rattle.heads.specs.Heads.{head_fields, head_rules_of}
use Rattle.items.specs.declared.item.ItemFindings.{ItemFindings}
use Rattle.items.specs.Items.{item_fields, rules_of}
use Rattle.single.specs.Single.{head_texts, item_texts, head_answer, item_answer, single_answer}
use Rattle.findings.specs.Answers.{field_number, answer_number}
use Rattle.single.specs.Numbers.{single_number}
use Rattle.single.specs.Refusals.{refused_number, single_refusals}
use Rattle.single.proofs.Fields.{head_is, item_is}

-- each rule names a field, whatever the kind of fault
data Naming : List Rule → Type 0 where
  none : Naming []
  one : {r : Rule} {rs : List Rule} → ((k : Kind) → refused_number (r.named k) ≡ 0) → Naming rs → Naming (r ∷ rs)

-- a fault is named by an answer that is no refusal
else_none : (f : Finding) (n : Kind → Answer) (a : Answer) → ((k : Kind) → refused_number (n k) ≡ 0) → refused_number a ≡ 0
    → refused_number (named_else f n a) ≡ 0
else_none (Ok u) n a h e = e
else_none (Err k) n a h e = h k

-- the answer by such rules is no refusal
no_refusal : {rs : List Rule} → Naming rs → refused_number (first_named rs) ≡ 0
no_refusal none = refl
no_refusal (one {r} {rs} h w) = else_none r.found r.named (first_named rs) h (no_refusal w)

-- the rules of a head, and those of an item
head_names : (r : List ℕ) (f : HeadFindings) → Naming (head_texts r ++ head_rules_of f)
unfolding head_texts head_rules_of
head_names r f =
    one (λ k. refl)
    (one (λ k. refl)
    (one (λ k. refl)
    (one (λ k. refl)
    (one (λ k. refl)
    (one (λ k. refl)
    (one (λ k. refl)
    (one (λ k. refl)
    (one (λ k. refl)
    (one (λ k. refl)
    (one (λ k. refl)
    (one (λ k. refl)
    (one (λ k. refl)
    (one (λ k. refl) none)))))))))))))

item_names : (r : List ℕ) (f : ItemFindings) → Naming (item_texts r ++ rules_of f)
unfolding item_texts rules_of
item_names r f =
    one (λ k. refl)
    (one (λ k. refl)
    (one (λ k. refl)
    (one (λ k. refl)
    (one (λ k. refl)
    (one (λ k. refl)
    (one (λ k. refl)
    (one (λ k. refl)
    (one (λ k. refl)
    (one (λ k. refl)
    (one (λ k. refl)
    (one (λ k. refl)
    (one (λ k. refl) none))))))))))))

-- so the answer on a head is no refusal, nor that on an item
head_told : (e : ℕ) (is_listed : ℕ → Bool) (known r : List ℕ) → refused_number (head_answer e is_listed known r) ≡ 0
head_told e is_listed known r =
    let f = head_fields e is_listed known r in
    ap refused_number (sym (head_is e is_listed known r) ∙ in_parts (head_texts r) (head_rules_of f)) ∙ no_refusal (head_names r f)

item_told : (kind e : ℕ) (is_listed : ℕ → Bool) (k : ℕ) (r : List ℕ) → refused_number (item_answer kind e is_listed k r) ≡ 0
item_told kind e is_listed k r =
    let f = item_fields kind e is_listed k r in
    ap refused_number (sym (item_is kind e is_listed k r) ∙ in_parts (item_texts r) (rules_of f)) ∙ no_refusal (item_names r f)

-- the number of a refusal for C is that of the refusal
for_c : (a : Answer) → (refused_number a ≡ 0 → ⊥) → single_number a ≡ refused_number a
unfolding single_number
for_c a f = go (eqb (field_number a) 0) refl f
  where
    go : (b : Bool) → eqb (field_number a) 0 ≡ b → (cond b (answer_number a) 0 ≡ 0 → ⊥) → field_number a * 100 + answer_number a ≡ cond b (answer_number a) 0
    go true q f = let z = eqb-true (field_number a) 0 q in omega arith
    go false q f = absurd (f refl)

module _ (l : Lent) (kind k : ℕ) (r : List ℕ) where
  abbrev listed : ℕ → Bool
  listed = found_in l.lists.banks

  -- the answer by the record's length, a head's or an item's
  abbrev told : Bool → Bool → Answer
  told h i = cond h (head_answer l.day listed l.lists.known r) (cond i (item_answer kind l.day listed k r) (Refused Malformed))

  -- 10 where it is neither
  by_length : (h i : Bool) → ByRows refused_number (told h i) ((10, not (h || i)) ∷ [])
  by_length true i = record { is = head_told l.day listed l.lists.known r }
  by_length false true = record { is = item_told kind l.day listed k r }
  by_length false false = record { is = refl }

  -- a single record: 1, 2, 3, 10
  pub single : refused_number (single_answer l kind k r) ≡ first_given (single_refusals l r)
  unfolding single_answer
  single =
      (asked (is_date l.day) (Refused NotADay)
      (after_lists Refused (λ x. refl) l.lists (by_length (eqb (length r) lengths.head) (eqb (length r) lengths.item)))).is

  -- where no row's condition holds, the answer is that on a head or an item, by its length
  pub unrefused : first_given (single_refusals l r) ≡ 0
      → single_answer l kind k r
      ≡ cond (eqb (length r) lengths.head) (head_answer l.day listed l.lists.known r) (item_answer kind l.day listed k r)
  unfolding single_answer
  unrefused = go (is_date l.day) (eqb (length r) lengths.head) (eqb (length r) lengths.item)
    where
      by_record : (h i : Bool) → first_given ((10, not (h || i)) ∷ []) ≡ 0 → told h i ≡ told h true
      by_record true i e = refl
      by_record false true e = refl
      by_record false false e = absurd (omega arith)

      go : (d h i : Bool) → first_given ((1, not d) ∷ list_refusals l.lists ++ ((10, not (h || i)) ∷ [])) ≡ 0
          → cond d (by (list_refused l.lists) (told h i) Refused) (Refused NotADay) ≡ told h true
      go true h i e =
          let p = lists_pass l.lists (told h i) Refused ((10, not (h || i)) ∷ []) e in
          p.0 ∙ by_record h i p.1
      go false h i e = absurd (omega arith)

  -- a refusal's number for C
  pub told_number : (first_given (single_refusals l r) ≡ 0 → ⊥) → single_number (single_answer l kind k r) ≡ first_given (single_refusals l r)
  told_number f = for_c (single_answer l kind k r) (λ e. f (sym single ∙ e)) ∙ single
