-- The foot's totals: by sums counted up to the limit as by the exact ones, and right by types only if right together.
-- Assumes nothing.
use mathlib.Core.Path.{◌≡◌, refl, sym, ap, ◌∙◌}
use mathlib.Core.Bool.{Bool, true, false, cond, not, ◌&&◌, ◌||◌, false≢true}
use mathlib.Core.List.{List, [], ◌∷◌}
use Prim.Native.Nat.{ℕ, ◌+◌}
use native.Mathlib.Omega.{arith}
use lib.Dec.{eqb}
use lib.ListN.{length, drop}
use borrow.Author.Tests.{eqb-true, eq-eqb}
use Rattle.base.specs.Bytes.{ascii, field, same}
use Rattle.base.specs.Groups.{all}
use Rattle.base.specs.Tables.{Row, first_given}
use Rattle.base.proofs.Every.{both}
use Rattle.base.proofs.Same.{same_true}
use Rattle.base.proofs.Groups.{length_groups}
use Rattle.base.proofs.Tables.{no_row}
use Rattle.digits.specs.Digits.{is_digits, number_of}
use Rattle.frame.specs.declared.Totals.{Totals}
use Rattle.answers.specs.Fedjel.{item_count, items_of, foot_of}
use Rattle.cover.specs.Head.{is_number}
use Rattle.cover.specs.Foot.{is_type, amount_of, total, count_of, sum_of, totals_of, are_together, typed_rows, joint_rows, foot_rows}
use Rattle.cover.specs.Sums.{capped, totals_to}
use Rattle.cover.specs.Codes.{is_typed, last_rows}
use Rattle.cover.proofs.Sums.{number_small, as_counted, as_counted_both}

-- items of the two types: they number all, and their sums make the sum of all
typed_one : (t u : Bool) (v : ℕ) → (t && u ≡ false) → t || u ≡ true → (cond t 1 0 + cond u 1 0 ≡ 1) × (cond t v 0 + cond u v 0 ≡ v)
typed_one true true v n e = absurd (false≢true (sym n))
typed_one true false v n e = (refl, omega arith)
typed_one false true v n e = (refl, omega arith)
typed_one false false v n e = absurd (false≢true e)

not_both : (it : List ℕ) → is_type 0x32 it && is_type 0x33 it ≡ false
unfolding is_type
not_both it = go (same (field 1 2 it) (48 ∷ 0x32 ∷ [])) refl
  where
    go : (b : Bool) → same (field 1 2 it) (48 ∷ 0x32 ∷ []) ≡ b → b && same (field 1 2 it) (48 ∷ 0x33 ∷ []) ≡ false
    go false e = refl
    go true e = ap (λ (x : List ℕ). same x (48 ∷ 0x33 ∷ [])) (same_true (field 1 2 it) (48 ∷ 0x32 ∷ []) e)

pub record Shared (its : List (List ℕ)) : Type 0 where
  pub counts : count_of 0x32 its + count_of 0x33 its ≡ length its
  pub sums : sum_of 0x32 its + sum_of 0x33 its ≡ total amount_of its

pub shared : (its : List (List ℕ)) → all is_typed its ≡ true → Shared its
unfolding is_typed
shared [] e = record { counts = refl; sums = refl }
shared (it ∷ its) e =
    let h = both (is_typed it) (all is_typed its) e in
    let w = shared its h.1 in
    let one = typed_one (is_type 0x32 it) (is_type 0x33 it) (amount_of it) (not_both it) h.0 in
    record { counts = omega (arith, w.counts, one.0); sums = omega (arith, w.sums, one.1) }

-- a field is the counted sum if it is the sum
is_counted : (s : ℕ) (f : List ℕ) → is_number (capped s) f ≡ is_number s f
unfolding is_number
is_counted s f = ap (λ (b : Bool). is_digits f && b) (as_counted (number_of f) s (omega (arith, number_small f)))

are_counted : (s t : ℕ) (f g : List ℕ) → are_together (capped s + capped t) f g ≡ are_together (s + t) f g
unfolding are_together
are_counted s t f g =
    ap (λ (b : Bool). is_digits f && (is_digits g && b))
    (as_counted_both (number_of f + number_of g) s t (omega (arith, number_small f, number_small g)))

module _ (its : List (List ℕ)) (f : List ℕ) where
  abbrev a : Totals
  a = totals_to 0x32 its

  abbrev b : Totals
  b = totals_to 0x33 its

  typed_counted : typed_rows a b f ≡ typed_rows (totals_of 0x32 its) (totals_of 0x33 its) f
  unfolding typed_rows totals_to
  typed_counted = simp is_counted

  joint_counted : all is_typed its ≡ true → joint_rows (length its) (a.sum + b.sum) f ≡ joint_rows (length its) (total amount_of its) f
  unfolding joint_rows totals_to
  joint_counted e =
      let s : sum_of 0x32 its + sum_of 0x33 its ≡ total amount_of its = (shared its e).sums in
      ap (λ (x : Bool). (18, not (are_together (length its) (field 3 6 f) (field 23 26 f))) ∷ (19, not x) ∷ [])
      (are_counted (sum_of 0x32 its) (sum_of 0x33 its) (field 7 22 f) (field 27 42 f)
      ∙ ap (λ (n : ℕ). are_together n (field 7 22 f) (field 27 42 f)) s)

-- so the foot's rows are those of the exact totals
module _ (faulty : Bool) (m : List ℕ) (e : all is_typed (items_of m) ≡ true) where
  abbrev its : List (List ℕ)
  its = items_of m

  abbrev sum_both : Totals → Totals → Totals
  sum_both x y = record { count = length its; sum = x.sum + y.sum }

  exact : first_given (foot_rows faulty (totals_to 0x32 its) (totals_to 0x33 its) (sum_both (totals_to 0x32 its) (totals_to 0x33 its)) (foot_of m))
      ≡ first_given (last_rows faulty m)
  unfolding last_rows foot_rows
  exact =
      let f = foot_of m in
      let row : Row = (47, not (same (field 1 2 f) (ascii "04"))) in
      ap (λ (x : List Row). first_given (row ∷ cond faulty x (typed_rows (a its f) (b its f) f))) (joint_counted its f e)
      ∙ ap (λ (x : List Row). first_given (row ∷ cond faulty (joint_rows (length its) (total amount_of its) f) x)) (typed_counted its f)

  pub counted : {x y t : Totals} {f : List ℕ} {n : ℕ} → x ≡ totals_to 0x32 its → y ≡ totals_to 0x33 its → n ≡ item_count m
      → t ≡ record { count = n; sum = x.sum + y.sum } → f ≡ foot_of m → first_given (foot_rows faulty x y t f) ≡ first_given (last_rows faulty m)
  counted {x} {y} {t} {f} {n} p q k r s =
      let c : n ≡ length its = k ∙ sym (length_groups 72 70 (item_count m) (drop 34 m)) in
      let r' : t ≡ sum_both (totals_to 0x32 its) (totals_to 0x33 its) =
      r ∙ ap (λ (i : ℕ). record { count = i; sum = x.sum + y.sum }) c ∙ ap (λ (z : Totals). sum_both z y) p ∙ ap (sum_both (totals_to 0x32 its)) q in
      ap (λ (z : Totals). first_given (foot_rows faulty z y t f)) p
      ∙ ap (λ (z : Totals). first_given (foot_rows faulty (totals_to 0x32 its) z t f)) q
      ∙ ap (λ (z : Totals). first_given (foot_rows faulty (totals_to 0x32 its) (totals_to 0x33 its) z f)) r'
      ∙ ap (λ (z : List ℕ). first_given (foot_rows faulty (totals_to 0x32 its) (totals_to 0x33 its) (sum_both (totals_to 0x32 its) (totals_to 0x33 its)) z)) s
      ∙ exact

-- digits whose number is n
told : (n : ℕ) (f : List ℕ) → is_number n f ≡ true → (is_digits f ≡ true) × (number_of f ≡ n)
unfolding is_number
told n f e =
    let h = both (is_digits f) (eqb (number_of f) n) e in
    (h.0, eqb-true (number_of f) n h.1)

-- two such fields are right together
tell : (n k l : ℕ) (f g : List ℕ) → k + l ≡ n → is_number k f ≡ true → is_number l g ≡ true → are_together n f g ≡ true
unfolding are_together
tell n k l f g s p q =
    let x = told k f p in
    let y = told l g q in
    let z : eqb (number_of f + number_of g) n ≡ true = eq-eqb (number_of f + number_of g) n (omega (arith, s, x.1, y.1)) in
    simp (x.0, y.0, z)

-- totals that are right by types are right together
pub right_together : (m : List ℕ) → all is_typed (items_of m) ≡ true → first_given (last_rows false m) ≡ 0 → first_given (last_rows true m) ≡ 0
unfolding last_rows foot_rows typed_rows joint_rows
right_together m t e =
    let f = foot_of m in
    let w = shared (items_of m) t in
    let one = no_row (same (field 1 2 f) (ascii "04")) 47 _ refl e in
    let two = no_row (is_number (count_of 0x32 (items_of m)) (field 3 6 f)) 18 _ refl one.1 in
    let three = no_row (is_number (sum_of 0x32 (items_of m)) (field 7 22 f)) 19 _ refl two.1 in
    let four = no_row (is_number (count_of 0x33 (items_of m)) (field 23 26 f)) 18 _ refl three.1 in
    let five = no_row (is_number (sum_of 0x33 (items_of m)) (field 27 42 f)) 19 _ refl four.1 in
    let c = tell (length (items_of m)) _ _ (field 3 6 f) (field 23 26 f) w.counts two.0 four.0 in
    let s = tell (total amount_of (items_of m)) _ _ (field 7 22 f) (field 27 42 f) w.sums three.0 five.0 in
    simp (one.0, c, s)
