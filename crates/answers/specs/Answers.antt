-- An item's code against the list of requests, and which item answers a request rightly (002 12.4.1; 02 #103).
-- Assumes nothing.
use Rattle.std.specs.Prelude.{ℕ, zero, suc, ◌≡◌, Bool, not, ◌&&◌, List, [], ◌∷◌, ◌++◌, length, get_or, take, eqb}
use Rattle.base.specs.Bytes.{ascii, field, same, over}
use Rattle.base.specs.Groups.{some}
use Rattle.base.specs.Tables.{Row, first_given}
use Rattle.text.specs.Text.{one_of}
use Rattle.requests.specs.Requests.{is_asked, request_of}

-- the answers that go with each type (T525): 02 and 1, cover; 03 and 0, 9 or 5
abbrev pub right_answers : List (List ℕ × List ℕ)
right_answers = (ascii "02", ascii "1") ∷ (ascii "03", ascii "095") ∷ []

-- position 68
abbrev pub answer_of : List ℕ → ℕ
answer_of it = get_or it 67 0

-- type, 1-2, and answer go together
unfoldable pub together : List ℕ → Bool
together it = some (λ r. same (field 1 2 it) r.0 && one_of r.1 (answer_of it)) right_answers

-- the item answers the request rightly: identifier, account and sum, positions 3-67, are the request's, and type and answer go together
unfoldable pub rightly : List ℕ → List ℕ → Bool
rightly q it = same (field 3 67 it) q && together it

-- an item beside its request: account, sum, answer
abbrev pub fault_rows : List ℕ → List ℕ → List Row
fault_rows q it =
    (71, not (same (field 28 51 it) (field 26 49 q)))
    ∷ (89, not (same (field 52 67 it) (field 50 65 q)))
    ∷ (76, not (together it))
    ∷ []

module _ (rs : List (List ℕ)) where
  -- an item after earlier ones, in the order of its fields: unknown (74), answered before (75), and its faults beside its request
  abbrev pub item_rows : List (List ℕ) → List ℕ → List Row
  item_rows earlier it =
      let id = field 3 27 it in
      let q = request_of id rs in
      (74, not (is_asked id rs)) ∷ (75, some (rightly q) earlier) ∷ fault_rows q it

  unfoldable pub item_code : List (List ℕ) → List ℕ → ℕ
  item_code earlier it = first_given (item_rows earlier it)

  -- the codes of the first k items
  unfoldable pub codes_to : List (List ℕ) → ℕ → List ℕ
  codes_to its zero = []
  codes_to its (suc k) = codes_to its k ++ (item_code (take k its) (get_or its k []) ∷ [])

  abbrev pub codes_of : List (List ℕ) → List ℕ
  codes_of its = codes_to its (length its)

  -- some item is faulty
  abbrev pub is_faulty : List (List ℕ) → Bool
  is_faulty its = some (λ c. not (eqb c 0)) (codes_of its)

  -- byte k of the table is the k-th item's code, as far as the table reaches
  abbrev pub table_after : List (List ℕ) → List ℕ → List ℕ
  table_after its table = over table 0 (take (length table) (codes_of its))

  pub record WithCodes (its : List (List ℕ)) (table : List ℕ) (r : Bool) (table' : List ℕ) : Type 0 where
    pub faulty : r ≡ is_faulty its
    pub codes : table' ≡ table_after its table
