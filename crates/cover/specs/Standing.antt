-- The standing answer to a request: the item that carries its identifier and has code 0, in a message with code 00 (02 #103).
-- Assumes nothing.
use Rattle.std.specs.Prelude.{ℕ, ◌<◌, ◌≡◌, List, [], get_or}
use Rattle.base.specs.Bytes.{field}
use Rattle.requests.specs.Requests.{requests_of}
use Rattle.answers.specs.Fedjel.{item_count, items_of}
use Rattle.answers.specs.Answers.{codes_of}
use Rattle.cover.specs.Codes.{message_code}

-- the k-th item, counted from 0, is the standing answer
pub record Stands (e : ℕ) (l m id : List ℕ) (k : ℕ) : Type 0 where
  pub item : k < item_count m
  pub carries : field 3 27 (get_or (items_of m) k []) ≡ id
  pub right : get_or (codes_of (requests_of l) (items_of m)) k 0 ≡ 0
  pub good : message_code e (requests_of l) m ≡ 0
