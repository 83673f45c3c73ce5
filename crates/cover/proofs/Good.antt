-- Whether the message code is 00, told by what the foot says: only where its totals are right together and not by types do faulty items decide.
-- Assumes nothing.
use mathlib.Core.Path.{◌≡◌, refl, sym, ◌∙◌}
use mathlib.Core.Bool.{Bool, true, false, cond, false≢true}
use mathlib.Core.List.{List}
use Prim.Native.Nat.{ℕ}
use native.Mathlib.Omega.{arith}
use lib.Dec.{eqb}
use borrow.Author.Tests.{eqb-true, eq-eqb, ne_eqb}
use Rattle.base.specs.Tables.{first_given}
use Rattle.answers.specs.Fedjel.{items_of}
use Rattle.cover.specs.Codes.{is_plain_message, last_rows, code_with}
use Rattle.cover.proofs.Parts.{head, items, typed, not_plain, by_parts}
use Rattle.cover.proofs.Totals.{right_together}

-- of a number that is not 0 the first is that number
skip : (h x : ℕ) {P : Type 0} → (h ≡ 0 → x ≡ 0 → P) → cond (eqb h 0) x h ≡ 0 → P
skip h x {P} f e = go (eqb h 0) refl e
  where
    go : (b : Bool) → eqb h 0 ≡ b → cond b x h ≡ 0 → P
    go true q e = f (eqb-true h 0 q) e
    go false q e = absurd (false≢true (sym q ∙ eq-eqb h 0 e))

module _ (e : ℕ) (rs : List (List ℕ)) (m : List ℕ) where
  -- right by types is right together
  either : code_with false e rs m ≡ 0 → code_with true e rs m ≡ 0
  either z = go (is_plain_message m) refl
    where
      by : is_plain_message m ≡ true → code_with true e rs m ≡ 0
      by p =
          let h = head false e rs m in
          let i = items false e rs m in
          let x = first_given (last_rows false m) in
          let y = first_given (last_rows true m) in
          by_parts true e rs m p
          ∙ skip h (cond (eqb i 0) x i)
          (λ (q : h ≡ 0) (r : cond (eqb i 0) x i ≡ 0).
          skip i x
          (λ (s : i ≡ 0) (t : x ≡ 0).
          let g : cond (eqb h 0) (cond (eqb i 0) y i) h ≡ y = simp (eq-eqb h 0 q, eq-eqb i 0 s) in
          g ∙ right_together m (typed (items_of m) s) t)
          r)
          (sym (by_parts false e rs m p) ∙ z)

      go : (b : Bool) → is_plain_message m ≡ b → code_with true e rs m ≡ 0
      go true p = by p
      go false p =
          let c : ◌≡◌ {A = ℕ} 36 0 = not_plain false e rs m p ∙ z in
          absurd (omega (arith, c))

  pub good : (f : Bool) → code_with false e rs m ≡ 0 → true ≡ eqb (code_with f e rs m) 0
  good false z = sym (eq-eqb (code_with false e rs m) 0 z)
  good true z = sym (eq-eqb (code_with true e rs m) 0 (either z))

  pub not_good : (f : Bool) → (code_with true e rs m ≡ 0 → ⊥) → false ≡ eqb (code_with f e rs m) 0
  not_good true n = sym (ne_eqb (code_with true e rs m) 0 n)
  not_good false n = sym (ne_eqb (code_with false e rs m) 0 (λ z. n (either z)))

  pub good_if_faulty : (f : Bool) → (code_with false e rs m ≡ 0 → ⊥) → code_with true e rs m ≡ 0 → f ≡ eqb (code_with f e rs m) 0
  good_if_faulty true n z = sym (eq-eqb (code_with true e rs m) 0 z)
  good_if_faulty false n z = sym (ne_eqb (code_with false e rs m) 0 n)
