-- A reply and the bar (02, #105): under one each reference has code 14 and nothing is accepted; without one its bytes are those of the reply
-- with an empty barred list.
-- Assumes nothing.
use mathlib.Core.Path.{◌≡◌, refl, sym, ◌∙◌}
use mathlib.Core.Bool.{true, false, cond}
use mathlib.Core.List.{List, [], map}
use Prim.Native.Nat.{ℕ}
use lib.ListN.{length, replicate}
use lib.Dec.{eqb}
use Rattle.base.specs.Bytes.{field}
use Rattle.lists.specs.Banks.{found_in as is_in}
use Rattle.lent.specs.Lent.{Lent, lent}
use Rattle.frame.specs.declared.Found.{Found}
use Rattle.frame.specs.Records.{lengths, items_of}
use Rattle.frame.specs.Verdict.{Rules, Verdict, none, found_in, told_by, verdict}
use Rattle.kinds.specs.Codes.{rules, rules_unbarred}
use Rattle.kinds.proofs.Barred.{all_14, none_accepted, unbarred_found, unbarred_verdict, none_barred}
use Rattle.status.specs.declared.reply.Particulars.{Particulars}
use Rattle.status.specs.Records.{written}
use Rattle.status.specs.Reply.{saying, room, referred, said, reply}

module _ (e : ℕ) (banks known barred m : List ℕ) where
  abbrev l : Lent
  l = lent e banks known barred

  -- under a bar, where there are references at all
  pub reply_14 : (told_by (rules l) m).barred ≡ true → (p : Particulars)
      → ((said l m p).accepted ≡ none) × (referred l m ≡ cond (eqb (said l m p).code 0) (replicate (length (items_of lengths m)) 14) [])
  unfolding referred
  reply_14 b p = ((none_accepted e (is_in banks) known (is_in barred) m b room).0, rw (all_14 e (is_in banks) known (is_in barred) m b))

module _ (e : ℕ) (banks known m : List ℕ) (p : Particulars) where
  -- a reply by a verdict and by what is found in the items
  abbrev by : Verdict → List Found → List ℕ
  by v fs =
      written (saying e (field 10 34 m) p v.closing) (cond (eqb v.closing.code 0) (map (λ f. f.code) fs) []) (items_of lengths m)

  abbrev Unbarred : Rules
  Unbarred = rules_unbarred e (is_in banks) known

  without : (barred : List ℕ) → (told_by (rules (lent e banks known barred)) m).barred ≡ false
      → reply (lent e banks known barred) m p ≡ by (verdict Unbarred room m) (found_in Unbarred m)
  unfolding reply referred
  without barred b =
      λ i. by (unbarred_verdict e (is_in banks) known (is_in barred) m b room i) (unbarred_found e (is_in banks) known (is_in barred) m b i)

  -- without one, whatever the barred list
  pub unbarred_reply : (barred : List ℕ) → (told_by (rules (lent e banks known barred)) m).barred ≡ false
      → reply (lent e banks known barred) m p ≡ reply (lent e banks known []) m p
  unbarred_reply barred b = without barred b ∙ sym (without [] (none_barred e (is_in banks) known (is_in []) m (λ x. refl)))
