-- The first of rows: what a function makes of it, and an answer's number by rows, where what is tested first stands in front.
-- Assumes nothing.
use mathlib.Core.Path.{◌≡◌, refl, sym, ap, ◌∙◌}
use mathlib.Core.Bool.{Bool, true, false, cond, not, false≢true}
use mathlib.Core.List.{List, [], ◌∷◌, ◌++◌, map}
use Prim.Native.Nat.{ℕ}
use lib.Dec.{eqb}
use borrow.Author.Tests.{eq-eqb}
use Rattle.base.specs.Groups.{all}
use Rattle.base.specs.Tables.{first_of, Row, first_given}
use Rattle.base.proofs.Every.{both}

-- what a function makes of the first is the first of what it makes of the rows' cases
pub through : {A B : Type 0} (f : A → B) (z : A) (rs : List (A × Bool)) → f (first_of z rs) ≡ first_of (f z) (map (λ r. (f r.0, r.1)) rs)
through f z [] = refl
through {A} {B} f z (r ∷ rs) = go r.1 (through f z rs)
  where
    go : (b : Bool) {y : B} → f (first_of z rs) ≡ y → f (cond b r.0 (first_of z rs)) ≡ cond b (f r.0) y
    go true e = refl
    go false e = e

-- the number of an answer is that of the first row whose condition holds
pub record ByRows {A : Type 0} (number : A → ℕ) (a : A) (rs : List Row) : Type 0 where
  pub is : number a ≡ first_given rs

module _ {A : Type 0} {number : A → ℕ} {a : A} {rs : List Row} where
  -- the test must hold, else z
  pub asked : (b : Bool) (z : A) → ByRows number a rs → ByRows number (cond b a z) ((number z, not b) ∷ rs)
  asked true z w = record { is = w.is }
  asked false z w = record { is = refl }

  -- z where the test holds
  pub barred : (b : Bool) (z : A) → ByRows number a rs → ByRows number (cond b z a) ((number z, b) ∷ rs)
  barred true z w = record { is = refl }
  barred false z w = record { is = w.is }

-- each row has a number other than 0
abbrev pub numbered : List Row → Bool
numbered rs = all (λ r. not (eqb r.0 0)) rs

-- the first of rows and of others after them: theirs where it isn't 0
pub rows_then : (xs ys : List Row) → numbered xs ≡ true → first_given (xs ++ ys) ≡ cond (eqb (first_given xs) 0) (first_given ys) (first_given xs)
rows_then [] ys e = refl
rows_then (x ∷ xs) ys e =
    let h = both (not (eqb x.0 0)) (numbered xs) e in
    go x.1 (not_true_false (eqb x.0 0) h.0) (rows_then xs ys h.1)
  where
    not_true_false : (b : Bool) → not b ≡ true → b ≡ false
    not_true_false false t = refl
    not_true_false true t = absurd (false≢true t)

    go : (b : Bool) → eqb x.0 0 ≡ false → first_given (xs ++ ys) ≡ cond (eqb (first_given xs) 0) (first_given ys) (first_given xs)
        → cond b x.0 (first_given (xs ++ ys)) ≡ cond (eqb (cond b x.0 (first_given xs)) 0) (first_given ys) (cond b x.0 (first_given xs))
    go true z i = simp z
    go false z i = i

-- a row by its test, and what follows
pub row : (code : ℕ) {ok t : Bool} → ok ≡ t → {other rest : ℕ} → other ≡ rest → {r : ℕ} → r ≡ cond ok other code → r ≡ cond (not t) code rest
row code {ok} {t} f {other} {rest} g {r} e = e ∙ ap (λ (b : Bool). cond b other code) f ∙ go t g
  where
    go : (b : Bool) → other ≡ rest → cond b other code ≡ cond (not b) code rest
    go true q = q
    go false q = refl

-- a row that gave nothing: its test held, and what follows gave nothing
pub no_row : (t : Bool) (code rest : ℕ) → eqb code 0 ≡ false → cond (not t) code rest ≡ 0 → (t ≡ true) × (rest ≡ 0)
no_row true code rest z e = (refl, e)
no_row false code rest z e = absurd (false≢true (sym z ∙ eq-eqb code 0 e))
