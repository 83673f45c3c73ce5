-- Reading a STATUS message: what it must be, and what it says (01, Calls and their answers, the last paragraph).
-- Assumes nothing.
use Rattle.std.specs.Prelude.{ℕ, zero, suc, ◌+◌, ◌-◌, ◌*◌, ◌/◌, ◌%◌, ◌≡◌, Bool, true, cond, ◌&&◌, List, [], ◌∷◌, map, length, get_or, take, drop}
use Rattle.std.specs.Prelude.{leb, ltb, eqb, Result, Ok, Err}
use Rattle.base.specs.Bytes.{ascii, field, same, over}
use Rattle.digits.specs.Digits.{is_digits, number_of}
use Rattle.frame.specs.Records.{no_id, ended}
use Rattle.frame.specs.Verdict.{none}
use Rattle.lent.specs.declared.Refusal.{Refusal}
use Rattle.lent.specs.declared.Refusal.TheVariants.{Room, Malformed}
use Rattle.frame.specs.declared.Status.{Status}
use Rattle.status.specs.Records.{is_address}
use Rattle.fields.specs.Fields.{is_duplicate}

-- how many references a STATUS has by its length: 56 bytes of head, 65 each, 48 of foot
abbrev pub count_of : List ℕ → ℕ
count_of x = (length x - 104) / 65

-- n parts of 65 bytes, one after the other
unfoldable pub parts_of : ℕ → List ℕ → List (List ℕ)
parts_of zero x = []
parts_of (suc n) x = take 65 x ∷ parts_of n (drop 65 x)

-- the head, the references and the foot, with their endings
abbrev pub head_in : List ℕ → List ℕ
head_in x = take 56 x

abbrev pub references_in : List ℕ → List (List ℕ)
references_in x = parts_of (count_of x) (drop 56 x)

abbrev pub foot_in : List ℕ → List ℕ
foot_in x = drop (56 + 65 * count_of x) x

-- 3.1: type, message type, duplicate code, address, digits in 35-54
unfoldable pub head_right : List ℕ → Bool
head_right h =
    same (field 1 8 h) (ascii "01STATUS")
    && (is_duplicate (get_or h 8 0) && (is_address (field 10 34 h) && (is_digits (field 35 54 h) && ended 54 h)))

-- 3.3: type, the reference's place, a code of two digits
unfoldable pub reference_right : ℕ → List ℕ → Bool
reference_right k r =
    same (field 1 2 r) (ascii "02")
    && (is_digits (field 3 8 r) && (eqb (number_of (field 3 8 r)) k && (is_digits (field 9 10 r) && ended 63 r)))

-- each reference carries its place, of which the first is k
unfoldable pub references_right : ℕ → List (List ℕ) → Bool
references_right k [] = true
references_right k (r ∷ rs) = reference_right k r && references_right (k + 1) rs

-- 3.2: type, digits
unfoldable pub foot_right : List ℕ → Bool
foot_right f = same (field 1 2 f) (ascii "03") && (is_digits (field 3 46 f) && ended 46 f)

-- the references' codes
abbrev pub codes_in : List ℕ → List ℕ
codes_in x = map (λ r. number_of (field 9 10 r)) (references_in x)

-- how many codes are 00
abbrev pub zeros_in : List ℕ → ℕ
zeros_in [] = 0
zeros_in (c ∷ cs) = cond (eqb c 0) 1 0 + zeros_in cs

-- how many are not
abbrev pub others_in : List ℕ → ℕ
others_in [] = 0
others_in (c ∷ cs) = cond (eqb c 0) 0 1 + others_in cs

-- what a STATUS says
unfoldable pub status_in : List ℕ → Status
status_in x =
    record {
      duplicate = get_or x 8 0;
      id = field 10 34 x;
      date = number_of (field 35 42 x);
      number = number_of (field 43 46 x);
      time = number_of (field 47 52 x);
      code = number_of (field 53 54 x);
      accepted = record { count = number_of (field 3 8 (foot_in x)); sum = number_of (field 9 24 (foot_in x)) };
      refused = record { count = number_of (field 25 30 (foot_in x)); sum = number_of (field 31 46 (foot_in x)) };
      references = count_of x;
    }

-- the foot's counts are the references with and without code 00; with code 00 there is a reference, otherwise none and a zero foot
unfoldable pub counts_right : Status → List ℕ → Bool
counts_right s cs =
    eqb s.accepted.count (zeros_in cs)
    && (eqb s.refused.count (others_in cs)
    && cond (eqb s.code 0)
    (ltb 0 s.references)
    (eqb s.references 0 && (eqb s.accepted.sum 0 && eqb s.refused.sum 0)))

-- refusal 10: lengths, then head, references, foot and counts
unfoldable pub is_status : List ℕ → Bool
is_status x =
    leb 104 (length x)
    && (eqb ((length x - 104) % 65) 0
    && (head_right (head_in x)
    && (references_right 1 (references_in x) && (foot_right (foot_in x) && counts_right (status_in x) (codes_in x)))))

-- zeros and spaces
abbrev pub no_status : Status
no_status =
    record {
      duplicate = 0;
      id = no_id;
      date = 0;
      number = 0;
      time = 0;
      code = 0;
      accepted = none;
      refused = none;
      references = 0;
    }

-- what a STATUS says; where reading it was refused, what stands beside the refusal's number
abbrev pub or_no_status : Result Status Refusal → Status
or_no_status (Ok s) = s
or_no_status (Err r) = no_status

-- refusals 10, 9
unfoldable pub read_of : List ℕ → List ℕ → Result Status Refusal
read_of x t = cond (is_status x) (cond (leb (count_of x) (length t)) (Ok (status_in x)) (Err Room)) (Err Malformed)

-- byte k of the table gets the k-th code, other bytes stay
unfoldable pub table_read : List ℕ → List ℕ → List ℕ
table_read x t = cond (is_status x && leb (count_of x) (length t)) (over t 0 (codes_in x)) t

pub record ReadAs (x t : List ℕ) (r : Result Status Refusal) (t' : List ℕ) : Type 0 where
  pub result : r ≡ read_of x t
  pub bytes : t' ≡ table_read x t
