-- The list of a day's cover requests, end to end (02 #103): identifier 1-25 (T511, T512), account 26-49 (T513), sum 50-65 (T518).
-- Assumes nothing.
use Rattle.std.specs.Prelude.{ℕ, ◌/◌, ◌%◌, Bool, true, not, ◌&&◌, List, [], ◌∷◌, length, get_or, eqb}
use Rattle.base.specs.Bytes.{field, same}
use Rattle.base.specs.Groups.{groups, some, place}
use Rattle.digits.specs.Digits.{is_digits}

-- the whole requests of a list
abbrev pub requests_of : List ℕ → List (List ℕ)
requests_of l = groups 65 65 (length l / 65) l

-- a request has the identifier
unfoldable pub has_id : List ℕ → List ℕ → Bool
has_id id q = same (field 1 25 q) id

-- a bank keeps a request's account, which begins with the bank's three digits
unfoldable pub keeps : List ℕ → List ℕ → Bool
keeps bank q = same (field 26 28 q) bank

-- each request's sum is digits, and no later request has its identifier
unfoldable pub are_requests : List (List ℕ) → Bool
are_requests [] = true
are_requests (q ∷ qs) = is_digits (field 50 65 q) && (not (some (has_id (field 1 25 q)) qs) && are_requests qs)

-- the bytes are a request list (02 #103, refusal 11)
unfoldable pub is_request_list : List ℕ → Bool
is_request_list l = eqb (length l % 65) 0 && are_requests (requests_of l)

-- some request has the identifier
abbrev pub is_asked : List ℕ → List (List ℕ) → Bool
is_asked id rs = some (has_id id) rs

-- the first request with the identifier; no bytes where none has it
unfoldable pub request_of : List ℕ → List (List ℕ) → List ℕ
request_of id rs = get_or rs (place (has_id id) rs) []
