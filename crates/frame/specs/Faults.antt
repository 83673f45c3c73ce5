-- When the codes that the verdict ranks are all 0 (01, Faults of the whole message).
-- Assumes nothing.
use Rattle.std.specs.Prelude.{ℕ, ◌≡◌, false, List, length}
use Rattle.base.specs.Each.{Each}
use Rattle.frame.specs.Records.{lengths, head_of, foot_of, is_broken}
use Rattle.frame.specs.Verdict.{Rules, found_in, total}

-- no break, no bad letter, and no code of the head, of an item for the whole message, or of the foot
pub record Codeless (R : Rules) (m : List ℕ) : Type 0 where
  pub unbroken : is_broken lengths m ≡ false
  pub head_letters : R.head_letter (head_of lengths m) ≡ false
  pub item_letters : Each (λ f. f.letter ≡ false) (found_in R m)
  pub head : R.head_code (head_of lengths m) ≡ 0
  pub items : Each (λ f. f.fault ≡ 0) (found_in R m)
  pub foot : R.foot_code (length (found_in R m)) (total (found_in R m)) (foot_of lengths m) ≡ 0
