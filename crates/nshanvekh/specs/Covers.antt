-- What the calls for cover answers answer, and what they leave in the memory that was lent (02 #103).
-- Assumes nothing.
use Rattle.std.specs.Prelude.{ℕ, ◌≡◌, Bool, cond, List, [], ◌∷◌, eqb, Result}
use Rattle.lent.specs.Lent.{outcome_number}
use Rattle.lent.specs.declared.Refusal.{Refusal}
use Rattle.cover.specs.Judging.{judged, table_by}
use Rattle.cover.specs.declared.Judged.{Judged}
use Rattle.status.specs.CoverStatus.{fedsta_outcome, fedsta_output}
use Rattle.nshanvekh.specs.Session.{sized, wrong_size, told}
use Rattle.nshanvekh.specs.Message.{particulars_of}

-- the numbers of a FEDJEL that is judged: message code, items
abbrev pub fedjel_numbers : Judged → List ℕ
fedjel_numbers j = j.code ∷ j.items ∷ []

-- what judging a FEDJEL tells
pub record FedjelTold (j : Result Judged Refusal) (ns : List ℕ) (r : ℕ) (ns' : List ℕ) : Type 0 where
  pub answer : r ≡ outcome_number j
  pub numbers : ns' ≡ told j fedjel_numbers ns

-- judging a FEDJEL
pub record FedjelAs (m : List ℕ) (e : ℕ) (l t ns : List ℕ) (r : ℕ) (t' ns' : List ℕ) : Type 0 where
  pub answer : r ≡ cond (sized ns 2) (outcome_number (judged e l m t)) wrong_size
  pub table : t' ≡ cond (sized ns 2) (table_by e l m t) t
  pub numbers : ns' ≡ cond (sized ns 2) (told (judged e l m t) fedjel_numbers ns) ns

-- cover is yes for 1 alone
abbrev pub is_yes : ℕ → Bool
is_yes cover = eqb cover 1

-- writing a FEDSTA
pub record FedstaAs (m : List ℕ) (e : ℕ) (l id : List ℕ) (cover d n t count : ℕ) (out : List ℕ) (r : ℕ) (out' : List ℕ) : Type 0 where
  pub answer : r ≡ cond (sized id 25) (outcome_number (fedsta_outcome e l m id (is_yes cover) (particulars_of d n t) count out)) wrong_size
  pub bytes : out' ≡ cond (sized id 25) (fedsta_output e l m id (is_yes cover) (particulars_of d n t) count out) out
