-- Rules that find the same in a message give the same code, the same verdict and the same table for it.
-- Assumes nothing.
use mathlib.Core.Path.{◌≡◌}
use mathlib.Core.Bool.{Bool, cond, ◌||◌}
use mathlib.Core.List.{List, [], ◌∷◌, ◌++◌, map}
use Prim.Native.Nat.{ℕ}
use lib.Dec.{eqb, ltb}
use lib.ListN.{length, take, drop}
use Rattle.frame.specs.declared.Found.{Found}
use Rattle.frame.specs.Records.{lengths, head_of, foot_of, is_broken}
use Rattle.frame.specs.Verdict.{Rules, Verdict, first, any, total, blank, overflow, given, counted, found_in}
use Rattle.frame.specs.Verdict.{message_code, identifier, told_by, verdict, table_after}

-- what counts of a message is the same by both
pub record Alike (R S : Rules) (m : List ℕ) : Type 0 where
  pub letter : R.head_letter (head_of lengths m) ≡ S.head_letter (head_of lengths m)
  pub code : R.head_code (head_of lengths m) ≡ S.head_code (head_of lengths m)
  pub foot : R.foot_code ≡ S.foot_code
  pub found : found_in R m ≡ found_in S m
  pub kind : (told_by R m).kind ≡ (told_by S m).kind

module _ (R S : Rules) (m : List ℕ) (a : Alike R S m) where
  -- the message code, by what is found
  abbrev code_by : Bool → ℕ → (ℕ → ℕ → List ℕ → ℕ) → List Found → ℕ
  code_by l c f fs =
      first
      (cond (is_broken lengths m) 26 0
      ∷ cond (l || any (map (λ x. x.letter) fs)) 36 0
      ∷ c
      ∷ first (map (λ x. x.fault) fs)
      ∷ f (length fs) (total fs) (foot_of lengths m)
      ∷ [])

  pub same_code : message_code R m ≡ message_code S m
  unfolding message_code
  same_code = λ i. code_by (a.letter i) (a.code i) (a.foot i) (a.found i)

  abbrev verdict_by : List ℕ → ℕ → ℕ → List Found → Verdict
  verdict_by t kind c fs =
      cond (ltb (length t) (length fs))
      overflow
      (given (cond (eqb c 0) (counted kind fs (identifier R m)) (blank kind c (identifier R m))))

  pub same_verdict : (t : List ℕ) → verdict R t m ≡ verdict S t m
  unfolding verdict identifier
  same_verdict t = λ i. verdict_by t (a.kind i) (same_code i) (a.found i)

  pub same_table : (t : List ℕ) → table_after R t m ≡ table_after S t m
  unfolding table_after
  same_table t = λ i. take (length t) (map (λ f. f.code) (a.found i) ++ drop (length (a.found i)) t)
