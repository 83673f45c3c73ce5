-- An item's code is 0 exactly when it answers its request rightly and no earlier item does (02 #103).
-- Assumes nothing.
use mathlib.Core.Path.{◌≡◌, refl, sym, ap, ◌∙◌}
use mathlib.Core.Bool.{Bool, true, false, cond, false≢true}
use mathlib.Core.List.{List, [], ◌∷◌, ◌++◌}
use Prim.Native.Nat.{ℕ, zero, suc, ◌<◌}
use native.Mathlib.Omega.{arith}
use lib.Dec.{eqb, ltb, lit≤}
use lib.ListN.{length, get_or, take, drop, get_or-append}
use lib.Seq.{take-add, take_all, drop-drop}
use borrow.Author.Tests.{eq-eqb, ltb-true, ltb-false}
use Rattle.base.specs.Bytes.{field, same}
use Rattle.base.specs.Groups.{some}
use Rattle.base.specs.Tables.{first_given}
use Rattle.base.proofs.Every.{both}
use Rattle.base.proofs.Parts.{within}
use Rattle.base.proofs.Same.{same_true, same_refl}
use Rattle.base.proofs.Tables.{no_row}
use Rattle.requests.specs.Requests.{requests_of, is_asked, request_of}
use Rattle.requests.proofs.Request.{request_id, request_long}
use Rattle.answers.specs.Answers.{together, rightly, fault_rows, item_code, codes_to}
use Rattle.answers.proofs.Codes.{length_codes}

-- a row whose condition is false gave nothing
passed_row : (b : Bool) (code rest : ℕ) → eqb code 0 ≡ false → cond b code rest ≡ 0 → (b ≡ false) × (rest ≡ 0)
passed_row false code rest z e = (refl, e)
passed_row true code rest z e = absurd (false≢true (sym z ∙ eq-eqb code 0 e))

-- a request's bytes are its three fields, and an item's positions 3-67 are its own
request_parts : (q : List ℕ) → length q ≡ 65 → q ≡ field 1 25 q ++ (field 26 49 q ++ field 50 65 q)
request_parts q h =
    sym (take_all 65 q (omega (arith, h)))
    ∙ take-add 25 40 q
    ∙ ap (λ (x : List ℕ). take 25 q ++ x) (take-add 24 16 (drop 25 q) ∙ ap (λ (x : List ℕ). take 24 (drop 25 q) ++ take 16 x) (drop-drop 24 25 q))

item_parts : (it : List ℕ) → field 3 67 it ≡ field 3 27 it ++ (field 28 51 it ++ field 52 67 it)
item_parts it =
    let x = drop 2 it in
    take-add 25 40 x
    ∙ ap (λ (y : List ℕ). take 25 x ++ take 40 y) (drop-drop 25 2 it)
    ∙ ap (λ (y : List ℕ). take 25 x ++ y)
    (take-add 24 16 (drop 27 it) ∙ ap (λ (y : List ℕ). take 24 (drop 27 it) ++ take 16 y) (drop-drop 24 27 it))

-- an item that answers a request rightly has the request's fields
module _ (q it : List ℕ) (r : rightly q it ≡ true) where
  is : (same (field 3 67 it) q ≡ true) × (together it ≡ true)
  unfolding rightly
  is = both (same (field 3 67 it) q) (together it) r

  own : field 3 67 it ≡ q
  own = same_true (field 3 67 it) q is.0

  pub right_id : field 3 27 it ≡ field 1 25 q
  right_id = within it 65 2 0 25 refl refl (lit≤ tt) ∙ ap (field 1 25) own

  right_account : field 28 51 it ≡ field 26 49 q
  right_account = within it 65 2 25 49 refl refl (lit≤ tt) ∙ ap (field 26 49) own

  right_sum : field 52 67 it ≡ field 50 65 q
  right_sum = within it 65 2 49 65 refl refl (lit≤ tt) ∙ ap (field 50 65) own

  right_faults : first_given (fault_rows q it) ≡ 0
  right_faults =
      let a : same (field 28 51 it) (field 26 49 q) ≡ true = ap (same (field 28 51 it)) (sym right_account) ∙ same_refl (field 28 51 it) in
      let s : same (field 52 67 it) (field 50 65 q) ≡ true = ap (same (field 52 67 it)) (sym right_sum) ∙ same_refl (field 52 67 it) in
      simp (a, s, is.1)

module _ (l : List ℕ) (earlier : List (List ℕ)) (it : List ℕ) where
  abbrev id : List ℕ
  id = field 3 27 it

  abbrev rs : List (List ℕ)
  rs = requests_of l

  abbrev q : List ℕ
  q = request_of id rs

  pub record Right : Type 0 where
    pub asked : is_asked id rs ≡ true
    pub first : some (rightly q) earlier ≡ false
    pub right : rightly q it ≡ true

  pub zero_right : item_code rs earlier it ≡ 0 → Right
  unfolding item_code rightly
  zero_right e =
      let one = no_row (is_asked id rs) 74 _ refl e in
      let two = passed_row (some (rightly q) earlier) 75 _ refl one.1 in
      let three = no_row (same (field 28 51 it) (field 26 49 q)) 71 _ refl two.1 in
      let four = no_row (same (field 52 67 it) (field 50 65 q)) 89 _ refl three.1 in
      let five = no_row (together it) 76 _ refl four.1 in
      let a = same_true (field 28 51 it) (field 26 49 q) three.0 in
      let s = same_true (field 52 67 it) (field 50 65 q) four.0 in
      let o : field 3 67 it ≡ q =
      item_parts it
      ∙ ap (λ (x : List ℕ). x ++ (field 28 51 it ++ field 52 67 it)) (sym (request_id l id one.0))
      ∙ ap (λ (x : List ℕ). field 1 25 q ++ (x ++ field 52 67 it)) a
      ∙ ap (λ (x : List ℕ). field 1 25 q ++ (field 26 49 q ++ x)) s
      ∙ sym (request_parts q (request_long l id one.0)) in
      let m : same (field 3 67 it) q ≡ true = ap (λ (x : List ℕ). same x q) o ∙ same_refl q in
      record { asked = one.0; first = two.0; right = simp (m, five.0) }

  pub right_zero : Right → item_code rs earlier it ≡ 0
  unfolding item_code
  right_zero w = simp (w.asked, w.first) (right_faults q it w.right)

-- byte k of the codes is the k-th item's
pub code_at : (rs its : List (List ℕ)) (n k : ℕ) → k < n → get_or (codes_to rs its n) k 0 ≡ item_code rs (take k its) (get_or its k [])
unfolding codes_to
code_at rs its zero k h = absurd (omega arith)
code_at rs its (suc n) k h = go (ltb k n) refl (code_at rs its n k)
  where
    cs : List ℕ
    cs = codes_to rs its n

    c : ℕ
    c = item_code rs (take n its) (get_or its n [])

    last : (xs : List ℕ) (x : ℕ) → get_or (xs ++ (x ∷ [])) (length xs) 0 ≡ x
    last [] x = refl
    last (y ∷ ys) x = last ys x

    go : (b : Bool) → ltb k n ≡ b → (k < n → get_or cs k 0 ≡ item_code rs (take k its) (get_or its k []))
        → get_or (cs ++ (c ∷ [])) k 0 ≡ item_code rs (take k its) (get_or its k [])
    go true e f =
        let i = ltb-true k n e in
        get_or-append cs (c ∷ []) 0 k (omega (arith, i, length_codes rs its n)) ∙ f i
    go false e f =
        let i = ltb-false k n e in
        let j : k ≡ n = omega arith in
        let m : n ≡ length cs = sym (length_codes rs its n) in
        ap (λ (x : ℕ). get_or (cs ++ (c ∷ [])) x 0) (j ∙ m) ∙ last cs c ∙ ap (λ (x : ℕ). item_code rs (take x its) (get_or its x [])) (sym j)
