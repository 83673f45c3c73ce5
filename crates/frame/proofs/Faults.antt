-- The message code is 00 exactly when the codes that it ranks are all 0; then accepted and refused items number what the foot says, and
-- their amounts make its sum.
-- Assumes nothing.
use mathlib.Core.Path.{◌≡◌, refl, sym, ap, ◌∙◌}
use mathlib.Core.Bool.{Bool, true, false, cond, not, ◌||◌, false≢true}
use mathlib.Core.List.{List, [], ◌∷◌, map}
use Prim.Native.Nat.{ℕ, suc, ◌+◌}
use native.Mathlib.Omega.{arith}
use lib.ListN.{length}
use lib.Dec.{eqb}
use borrow.Author.Tests.{eqb-true, eqb-false}
use Rattle.base.specs.Each.{Each}
use Rattle.frame.specs.declared.Found.{Found}
use Rattle.frame.specs.declared.Closing.{Closing}
use Rattle.frame.specs.Records.{lengths, head_of, foot_of, is_broken}
use Rattle.frame.specs.Verdict.{
  Rules,
  Verdict,
  first,
  any,
  accepted,
  refused,
  total,
  found_in,
  message_code,
  identifier,
  told_by,
  overflows,
  verdict,
  blank,
  overflow,
  given,
  counted,
}
use Rattle.frame.specs.Faults.{Codeless}
use Rattle.frame.specs.Sound.{Sound}

-- codes that are all 0
abbrev Zeros : List ℕ → Type 0
Zeros [] = Unit
Zeros (c ∷ cs) = (c ≡ 0) × Zeros cs

first_zeros : (cs : List ℕ) → first cs ≡ 0 → Zeros cs
first_zeros [] e = tt
first_zeros (c ∷ cs) e = go (eqb c 0) refl e (λ h. first_zeros cs h)
  where
    go : (t : Bool) → eqb c 0 ≡ t → cond t (first cs) c ≡ 0 → (first cs ≡ 0 → Zeros cs) → (c ≡ 0) × Zeros cs
    go true q e ih = (eqb-true c 0 q, ih e)
    go false q e ih = absurd (eqb-false c 0 q e)

zeros_first : (cs : List ℕ) → Zeros cs → first cs ≡ 0
zeros_first [] z = refl
zeros_first (c ∷ cs) z = rw z.0 (zeros_first cs z.1)

flag_off : (b : Bool) (n : ℕ) → (n ≡ 0 → ⊥) → cond b n 0 ≡ 0 → b ≡ false
flag_off true n f e = absurd (f e)
flag_off false n f e = refl

flag_on : (b : Bool) (n : ℕ) → b ≡ false → cond b n 0 ≡ 0
flag_on b n e = rw e

neither : (a b : Bool) → a || b ≡ false → (a ≡ false) × (b ≡ false)
neither true b e = absurd (false≢true (sym e))
neither false b e = (refl, e)

each_letter : (fs : List Found) → any (map (λ f. f.letter) fs) ≡ false → Each (λ f. f.letter ≡ false) fs
each_letter [] e = tt
each_letter (f ∷ fs) e = let h = neither f.letter (any (map (λ f. f.letter) fs)) e in (h.0, each_letter fs h.1)

no_letter : (fs : List Found) → Each (λ f. f.letter ≡ false) fs → any (map (λ f. f.letter) fs) ≡ false
no_letter [] e = refl
no_letter (f ∷ fs) e = rw e.0 (no_letter fs e.1)

each_fault : (fs : List Found) → Zeros (map (λ f. f.fault) fs) → Each (λ f. f.fault ≡ 0) fs
each_fault [] z = tt
each_fault (f ∷ fs) z = (z.0, each_fault fs z.1)

no_fault : (fs : List Found) → Each (λ f. f.fault ≡ 0) fs → Zeros (map (λ f. f.fault) fs)
no_fault [] e = tt
no_fault (f ∷ fs) e = (e.0, no_fault fs e.1)

module _ (R : Rules) (m : List ℕ) where
  abbrev fs : List Found
  fs = found_in R m

  abbrev letters : Bool
  letters = R.head_letter (head_of lengths m) || any (map (λ f. f.letter) fs)

  -- the codes in rank order
  abbrev ranks : List ℕ
  ranks =
      cond (is_broken lengths m) 26 0
      ∷ cond letters 36 0
      ∷ R.head_code (head_of lengths m)
      ∷ first (map (λ f. f.fault) fs)
      ∷ R.foot_code (length fs) (total fs) (foot_of lengths m)
      ∷ []

  -- code 00 means that all are 0
  pub codeless : message_code R m ≡ 0 → Codeless R m
  unfolding message_code
  codeless e =
      let z = first_zeros ranks e in
      let l = neither (R.head_letter (head_of lengths m)) (any (map (λ f. f.letter) fs)) (flag_off letters 36 (λ q. omega arith) z.1.0) in
      record {
        unbroken = flag_off (is_broken lengths m) 26 (λ q. omega arith) z.0;
        head_letters = l.0;
        item_letters = each_letter fs l.1;
        head = z.1.1.0;
        items = each_fault fs (first_zeros (map (λ f. f.fault) fs) z.1.1.1.0);
        foot = z.1.1.1.1.0;
      }

  -- and the other way
  pub code_zero : Codeless R m → message_code R m ≡ 0
  unfolding message_code
  code_zero k =
      let l : letters ≡ false = ap (λ (b : Bool). b || any (map (λ f. f.letter) fs)) k.head_letters ∙ no_letter fs k.item_letters in
      zeros_first ranks (
        flag_on (is_broken lengths m) 26 k.unbroken,
        (flag_on letters 36 l, (k.head, (zeros_first (map (λ f. f.fault) fs) (no_fault fs k.items), (k.foot, tt)))),
      )

-- accepted and refused are all
pub all_items : (fs : List Found) → length (accepted fs) + length (refused fs) ≡ length fs
all_items [] = refl
all_items (f ∷ fs) = go (eqb f.code 0) (all_items fs)
  where
    go : (t : Bool) → length (accepted fs) + length (refused fs) ≡ length fs
        → length (cond t (f ∷ accepted fs) (accepted fs)) + length (cond (not t) (f ∷ refused fs) (refused fs)) ≡ suc (length fs)
    go true e = omega arith
    go false e = omega arith

pub all_amounts : (fs : List Found) → total (accepted fs) + total (refused fs) ≡ total fs
all_amounts [] = refl
all_amounts (f ∷ fs) = go (eqb f.code 0) (all_amounts fs)
  where
    go : (t : Bool) → total (accepted fs) + total (refused fs) ≡ total fs
        → total (cond t (f ∷ accepted fs) (accepted fs)) + total (cond (not t) (f ∷ refused fs) (refused fs)) ≡ f.amount + total fs
    go true e = omega arith
    go false e = omega arith

-- when the answer is code 00, the numbers are those of the foot
module _ (R : Rules) (ok : Sound R) (t m : List ℕ) where
  -- a closing has the foot's numbers
  pub record Totalled (k : Closing) : Type 0 where
    pub count : k.accepted.count + k.refused.count ≡ R.foot_count (foot_of lengths m)
    pub sum : k.accepted.sum + k.refused.sum ≡ R.foot_sum (foot_of lengths m)

  pub totals : (verdict R t m).refusal ≡ 0 → (verdict R t m).closing.code ≡ 0 → Totalled (verdict R t m).closing
  unfolding verdict
  totals r c = go (overflows R t m) (eqb (message_code R m) 0) refl r c
    where
      v : Bool → Bool → Verdict
      v o z =
          cond o
          overflow
          (given (cond z (counted (told_by R m).kind (found_in R m) (identifier R m)) (blank (told_by R m).kind (message_code R m) (identifier R m))))

      go : (o z : Bool) → eqb (message_code R m) 0 ≡ z → (v o z).refusal ≡ 0 → (v o z).closing.code ≡ 0 → Totalled (v o z).closing
      go true z q r c = absurd (omega arith)
      go false true q r c =
          let k = codeless R m (eqb-true (message_code R m) 0 q) in
          let s = ok.foot_says (length (found_in R m)) (total (found_in R m)) (foot_of lengths m) k.foot in
          record { count = all_items (found_in R m) ∙ sym s.0; sum = all_amounts (found_in R m) ∙ sym s.1 }
      go false false q r c = absurd (eqb-false (message_code R m) 0 q c)
