-- An item's code by the search for its request, and the codes of the first items in the table.
-- Assumes nothing.
use mathlib.Core.Path.{◌≡◌, refl, sym, ap, ◌∙◌}
use mathlib.Core.Bool.{Bool, true, false, cond, not, ◌||◌, or_assoc, or-false}
use mathlib.Core.List.{List, [], ◌∷◌, ◌++◌}
use Prim.Native.Nat.{ℕ, zero, suc, ◌+◌, ◌*◌, ◌/◌, ◌≤◌, ◌<◌}
use native.Mathlib.Nat.{zero-add}
use native.Mathlib.Numerals.{add-one}
use native.Mathlib.Omega.{arith}
use lib.Dec.{eqb, ltb, lit≤}
use lib.ListN.{length, get_or, take, drop, set, length-append}
use lib.Seq.{length-take-le, take_all, take-nil, take-append-le, set_out}
use borrow.Author.Tests.{ltb-true, ltb-false}
use Rattle.std.specs.Prelude.{Option, Some, None, is_some, position}
use Rattle.std.specs.Simd.{first_chunks}
use Rattle.base.specs.Bytes.{field, over}
use Rattle.base.specs.Groups.{groups, some}
use Rattle.base.specs.Tables.{first_given}
use Rattle.base.proofs.Chunks.{position_some, cut_groups}
use Rattle.base.proofs.Groups.{length_groups, group_at, front_groups}
use Rattle.base.proofs.Over.{over_none, over_set, length_over}
use Rattle.requests.specs.Requests.{requests_of, has_id, request_of}
use Rattle.requests.proofs.Found.{unasked, asked, lent_whole}
use Rattle.answers.specs.Fedjel.{item_count, item_bytes, items_in, items_of}
use Rattle.answers.proofs.Form.{items_long}
use Rattle.answers.specs.Answers.{rightly, fault_rows, item_code, codes_to, WithCodes}

module _ (l : List ℕ) (earlier : List (List ℕ)) (it : List ℕ) {f : Option ℕ} (p : f ≡ position (has_id (field 3 27 it)) (requests_of l)) where
  abbrev id : List ℕ
  id = field 3 27 it

  abbrev rs : List (List ℕ)
  rs = requests_of l

  pub unknown : f ≡ None → 74 ≡ item_code rs earlier it
  unfolding item_code
  unknown n = simp (unasked l id p n)

  -- the request, as code lends it
  module _ {j : ℕ} (s : f ≡ Some j) {qs : List (List ℕ)} (cut : qs ≡ first_chunks 65 (length l / 65) l) where
    abbrev own : List ℕ
    own = get_or qs j []

    known : cond (some (rightly own) earlier) 75 (first_given (fault_rows own it)) ≡ item_code rs earlier it
    unfolding item_code
    known =
        ap (λ (q : List ℕ). cond (some (rightly q) earlier) 75 (first_given (fault_rows q it)))
        (ap (λ (x : List (List ℕ)). get_or x j []) cut ∙ sym (lent_whole l id p s))
        ∙ ap (λ (b : Bool). cond (not b) 74 (cond (some (rightly (request_of id rs)) earlier) 75 (first_given (fault_rows (request_of id rs) it))))
        (sym (asked l id p s))

    module _ {r : Option ℕ} (e : r ≡ position (rightly own) earlier) where
      by_earlier : cond (is_some r) 75 (first_given (fault_rows own it)) ≡ item_code rs earlier it
      by_earlier = ap (λ (b : Bool). cond b 75 (first_given (fault_rows own it))) (position_some (rightly own) earlier e) ∙ known

      pub repeated : is_some r ≡ true → 75 ≡ item_code rs earlier it
      repeated t = simp t at by_earlier

      pub first_one : is_some r ≡ false → {c : ℕ} → c ≡ first_given (fault_rows own it) → c ≡ item_code rs earlier it
      first_one t f = f ∙ simp t at by_earlier

-- a fault of an item
abbrev given : ℕ → Bool
given c = not (eqb c 0)

some_snoc : (f : ℕ → Bool) (xs : List ℕ) (x : ℕ) → some f (xs ++ (x ∷ [])) ≡ some f xs || f x
some_snoc f [] x = or-false (f x)
some_snoc f (y ∷ ys) x = ap (λ (b : Bool). f y || b) (some_snoc f ys x) ∙ sym (or_assoc (f y) (some f ys) (f x))

pub length_codes : (qs its : List (List ℕ)) (k : ℕ) → length (codes_to qs its k) ≡ k
unfolding codes_to
length_codes qs its zero = refl
length_codes qs its (suc k) =
    length-append (codes_to qs its k) (item_code qs (take k its) (get_or its k []) ∷ [])
    ∙ ap (λ (n : ℕ). n + 1) (length_codes qs its k)
    ∙ add-one k

length_take_most : (n : ℕ) (xs : List ℕ) → length (take n xs) ≤ n
length_take_most zero xs = omega arith
length_take_most (suc n) [] = omega arith
length_take_most (suc n) (x ∷ xs) = omega (arith, length_take_most n xs)

-- the table with the first codes, as far as it reaches
filled : (t cs : List ℕ) (c : ℕ) → set (over t 0 (take (length t) cs)) (length cs) c ≡ over t 0 (take (length t) (cs ++ (c ∷ [])))
filled t cs c = go (ltb (length cs) (length t)) refl
  where
    short : length cs < length t → set (over t 0 (take (length t) cs)) (length cs) c ≡ over t 0 (take (length t) (cs ++ (c ∷ [])))
    short h =
        let a : take (length t) cs ≡ cs = take_all (length t) cs (omega arith) in
        let n : length (cs ++ (c ∷ [])) ≡ length cs + 1 = length-append cs (c ∷ []) in
        let b : take (length t) (cs ++ (c ∷ [])) ≡ cs ++ (c ∷ []) = take_all (length t) (cs ++ (c ∷ [])) (omega (arith, n)) in
        let o : set (over t 0 cs) (0 + length cs) c ≡ over t 0 (cs ++ (c ∷ [])) = over_set t 0 cs c (omega arith) in
        ap (λ (x : List ℕ). set (over t 0 x) (length cs) c) a
        ∙ ap (λ (i : ℕ). set (over t 0 cs) i c) (sym (zero-add (length cs)))
        ∙ o
        ∙ ap (over t 0) (sym b)

    long : length t ≤ length cs → set (over t 0 (take (length t) cs)) (length cs) c ≡ over t 0 (take (length t) (cs ++ (c ∷ [])))
    long h =
        let a : take (length t) (cs ++ (c ∷ [])) ≡ take (length t) cs = take-append-le (length t) cs (c ∷ []) h in
        let n : length (take (length t) cs) ≡ length t = length-take-le (length t) cs h in
        let o : length (over t 0 (take (length t) cs)) ≡ length t = length_over t 0 (take (length t) cs) (omega (arith, n)) in
        set_out (over t 0 (take (length t) cs)) (length cs) c (omega (arith, o)) ∙ ap (over t 0) (sym a)

    go : (b : Bool) → ltb (length cs) (length t) ≡ b → set (over t 0 (take (length t) cs)) (length cs) c ≡ over t 0 (take (length t) (cs ++ (c ∷ [])))
    go true e = short (ltb-true (length cs) (length t) e)
    go false e = long (ltb-false (length cs) (length t) e)

module _ (l m t₀ : List ℕ) where
  -- the codes of the first k items stand in the table
  pub record Coded (t : List ℕ) (faulty : Bool) (k : ℕ) : Type 0 where
    pub found : faulty ≡ some given (codes_to (requests_of l) (items_of m) k)
    pub table : t ≡ over t₀ 0 (take (length t₀) (codes_to (requests_of l) (items_of m) k))

  pub coded : Coded t₀ false 0
  unfolding codes_to
  coded = record { found = refl; table = sym (ap (over t₀ 0) (take-nil (length t₀)) ∙ over_none t₀ 0) }

  module _ {t : List ℕ} {faulty : Bool} {k : ℕ} (w : Coded t faulty k) where
    pub coded_on : k < item_count m → {c : ℕ} → c ≡ item_code (requests_of l) (take k (items_of m)) (get_or (items_of m) k [])
        → {t' : List ℕ} → t' ≡ set t k c → Coded t' (faulty || given c) (k + 1)
    unfolding codes_to
    coded_on h {c} q {t'} f =
        let cs = codes_to (requests_of l) (items_of m) k in
        let s : cs ++ (c ∷ []) ≡ codes_to (requests_of l) (items_of m) (k + 1) =
        ap (λ (x : ℕ). cs ++ (x ∷ [])) q ∙ ap (codes_to (requests_of l) (items_of m)) (sym (add-one k)) in
        record {
          found = ap (λ (x : Bool). x || given c) w.found ∙ sym (some_snoc given cs c) ∙ ap (some given) s;
          table = f ∙ ap (λ (x : List ℕ). set x k c) w.table
              ∙ ap (λ (i : ℕ). set (over t₀ 0 (take (length t₀) cs)) i c) (sym (length_codes (requests_of l) (items_of m) k))
              ∙ filled t₀ cs c
              ∙ ap (λ (x : List ℕ). over t₀ 0 (take (length t₀) x)) s;
        }

    -- the table keeps its length
    pub coded_long : length t ≡ length t₀
    coded_long =
        let cs = take (length t₀) (codes_to (requests_of l) (items_of m) k) in
        let n : length cs ≤ length t₀ = length_take_most (length t₀) (codes_to (requests_of l) (items_of m) k) in
        ap length w.table ∙ length_over t₀ 0 cs (omega (arith, n))

    pub coded_all : k ≡ item_count m → WithCodes (requests_of l) (items_of m) t₀ faulty t
    coded_all h =
        let z : k ≡ length (items_of m) = h ∙ sym (length_groups 72 70 (item_count m) (drop 34 m)) in
        record {
          faulty = w.found ∙ ap (λ (i : ℕ). some given (codes_to (requests_of l) (items_of m) i)) z;
          codes = w.table ∙ ap (λ (i : ℕ). over t₀ 0 (take (length t₀) (codes_to (requests_of l) (items_of m) i))) z;
        }

-- the k-th item and those before it, by the items' bytes as code lends them
module _ (m : List ℕ) {b : List ℕ} (e : b ≡ item_bytes m) {k : ℕ} (h : k < item_count m) where
  pub low : k * 72 + 70 ≤ length b
  low = omega (arith, ap length e, items_long m)

  before : items_in (take (k * 72) b) ≡ take k (items_of m)
  before =
      let n : length (take (k * 72) b) ≡ k * 72 = length-take-le (k * 72) b (omega (arith, low)) in
      let c : length (take (k * 72) b) / 72 ≡ k = omega (arith, n) in
      ap (λ (i : ℕ). groups 72 70 i (take (k * 72) b)) c
      ∙ cut_groups 72 70 k b (lit≤ tt)
      ∙ sym (front_groups 72 70 (item_count m) b k (omega arith))
      ∙ ap (λ (x : List ℕ). take k (groups 72 70 (item_count m) x)) e
      ∙ ap (take k) (cut_groups 72 70 (item_count m) (drop 34 m) (lit≤ tt))

  own_item : take 70 (drop (k * 72) b) ≡ get_or (items_of m) k []
  own_item =
      sym (group_at 72 70 (item_count m) b k h)
      ∙ ap (λ (x : List ℕ). get_or (groups 72 70 (item_count m) x) k []) e
      ∙ ap (λ (x : List (List ℕ)). get_or x k []) (cut_groups 72 70 (item_count m) (drop 34 m) (lit≤ tt))

  pub item_lent : (rs : List (List ℕ)) {earlier it : List ℕ} → earlier ≡ take (k * 72) b → it ≡ take 70 (drop (k * 72) b)
      → item_code rs (items_in earlier) it ≡ item_code rs (take k (items_of m)) (get_or (items_of m) k [])
  item_lent rs {earlier} {it} e q =
      ap (λ (x : List (List ℕ)). item_code rs x it) (ap items_in e ∙ before) ∙ ap (item_code rs (take k (items_of m))) (q ∙ own_item)
