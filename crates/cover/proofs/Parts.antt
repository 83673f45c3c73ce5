-- The message code, part by part as the code asks for it.
-- Assumes nothing.
use mathlib.Core.Path.{◌≡◌, refl, sym, ap, ◌∙◌}
use mathlib.Core.Bool.{Bool, true, false, cond, ◌&&◌}
use mathlib.Core.List.{List, [], ◌∷◌, ◌++◌}
use Prim.Native.Nat.{ℕ, ◌+◌, ◌-◌, ◌*◌, ◌%◌, ◌≤◌}
use native.Mathlib.Omega.{arith}
use lib.Dec.{leb, eqb, lit≤}
use lib.ListN.{length, take, length-drop}
use denote.Ref.{Bor}
use Rattle.std.specs.Prelude.{Some, None}
use Rattle.std.specs.Slice.Iter.{chunks_exact_rest, chunks_exact_size, chunks_exact_steps}
use Rattle.std.specs.declared.slice.ChunksExact.{ChunksExact}
use borrow.Author.Tests.{leb-true, eqb-true, eq-eqb, ne_eqb}
use Rattle.base.specs.Bytes.{field}
use Rattle.base.specs.Groups.{all}
use Rattle.base.specs.Tables.{first_given}
use Rattle.base.proofs.Every.{both}
use Rattle.base.proofs.Chunks.{turn_on, turn_ends}
use Rattle.base.proofs.Tables.{numbered, rows_then, no_row}
use Rattle.text.specs.Text.{is_plain}
use Rattle.digits.specs.Digits.{is_digits}
use Rattle.answers.specs.Fedjel.{item_count, head_of, items_in, items_of, foot_ended, foot_of, is_fedjel}
use Rattle.cover.specs.Head.{head_rows}
use Rattle.cover.specs.Codes.{is_plain_message, is_typed, whole_rows, whole_rows_of_all, last_rows, message_rows, code_with}

-- what passes as a FEDJEL is long enough for its head, its items and its foot
pub record Long (m : List ℕ) : Type 0 where
  pub least : 150 ≤ length m
  pub exact : 34 + item_count m * 72 + 44 ≡ length m

pub long : (m : List ℕ) → is_fedjel m ≡ true → Long m
unfolding is_fedjel
long m e =
    let one = both (leb 150 (length m)) _ e in
    let two = both (eqb ((length m - 78) % 72) 0) _ one.1 in
    let a = leb-true 150 (length m) one.0 in
    let b = eqb-true ((length m - 78) % 72) 0 two.0 in
    record { least = a; exact = omega (arith, a, b) }

-- the rows of items one after the other: those of what is left decide as all do
pub record Faultless (b : List ℕ) (s : ChunksExact ℕ) : Type 0 where
  pub size : chunks_exact_size s ≡ 72
  pub left : first_given (whole_rows_of_all (items_in (chunks_exact_rest s))) ≡ first_given (whole_rows_of_all (items_in b))

pub faultless : {b : List ℕ} {s : ChunksExact ℕ} → chunks_exact_rest s ≡ b → chunks_exact_size s ≡ 72 → Faultless b s
faultless r e = record { size = e; left = ap (λ (x : List ℕ). first_given (whole_rows_of_all (items_in x))) r }

numbered_item : (it : List ℕ) → numbered (whole_rows it) ≡ true
unfolding whole_rows
numbered_item it = refl

module _ {b : List ℕ} {s : ChunksExact ℕ} (w : Faultless b s) (t : ChunksExact ℕ) where
  pub no_fault : chunks_exact_steps s None t → 0 ≡ first_given (whole_rows_of_all (items_in b))
  unfolding whole_rows_of_all
  no_fault k = ap (λ (x : List (List ℕ)). first_given (whole_rows_of_all x)) (sym (turn_ends 72 70 (lit≤ tt) (omega arith) s t w.size k)) ∙ w.left

  module _ (x : Bor (List ℕ)) (k : chunks_exact_steps s (Some x) t) {it : List ℕ} (front : it ≡ take 70 x.now) {c : ℕ}
      (e : c ≡ first_given (whole_rows it)) where
    turn : cond (eqb c 0) (first_given (whole_rows_of_all (items_in (chunks_exact_rest t)))) c ≡ first_given (whole_rows_of_all (items_in b))
    unfolding whole_rows_of_all
    turn =
        let rest = whole_rows_of_all (items_in (chunks_exact_rest t)) in
        ap (λ (i : ℕ). cond (eqb i 0) (first_given rest) i) e
        ∙ sym (rows_then (whole_rows it) rest (numbered_item it))
        ∙ ap (λ (y : List ℕ). first_given (whole_rows y ++ rest)) front
        ∙ ap (λ (y : List (List ℕ)). first_given (whole_rows_of_all y)) (sym (turn_on 72 70 (lit≤ tt) (omega arith) s t w.size x k).1)
        ∙ w.left

    pub a_fault : (c ≡ 0 → ⊥) → c ≡ first_given (whole_rows_of_all (items_in b))
    a_fault f = simp (ne_eqb c 0 f) at turn

    pub faultless_on : c ≡ 0 → Faultless b t
    faultless_on f = record { size = (turn_on 72 70 (lit≤ tt) (omega arith) s t w.size x k).0; left = simp (eq-eqb c 0 f) at turn }

numbered_items : (its : List (List ℕ)) → numbered (whole_rows_of_all its) ≡ true
unfolding whole_rows_of_all whole_rows
numbered_items [] = refl
numbered_items (it ∷ its) = numbered_items its

numbered_head : (e : ℕ) (rs : List (List ℕ)) (h : List ℕ) → numbered (head_rows e rs h) ≡ true
unfolding head_rows
numbered_head e rs h = refl

-- items without an Ü fault are each of type 02 or 03
pub typed : (its : List (List ℕ)) → first_given (whole_rows_of_all its) ≡ 0 → all is_typed its ≡ true
unfolding whole_rows_of_all whole_rows
typed [] e = refl
typed (it ∷ its) e =
    let one = no_row (is_typed it) 46 _ refl e in
    let two = no_row (is_digits (field 52 67 it)) 34 _ refl one.1 in
    simp one.0 (typed its two.1)

-- the message code by its parts
module _ (faulty : Bool) (e : ℕ) (rs : List (List ℕ)) (m : List ℕ) where
  abbrev pub head : ℕ
  head = first_given (head_rows e rs (head_of m))

  abbrev pub items : ℕ
  items = first_given (whole_rows_of_all (items_of m))

  pub not_plain : is_plain_message m ≡ false → 36 ≡ code_with faulty e rs m
  unfolding code_with message_rows
  not_plain f = simp f

  module _ (p : is_plain_message m ≡ true) where
    by_head : code_with faulty e rs m ≡ cond (eqb head 0) (first_given (whole_rows_of_all (items_of m) ++ last_rows faulty m)) head
    unfolding code_with message_rows
    by_head = simp p (rows_then (head_rows e rs (head_of m)) (whole_rows_of_all (items_of m) ++ last_rows faulty m) (numbered_head e rs (head_of m)))

    by_items : first_given (whole_rows_of_all (items_of m) ++ last_rows faulty m) ≡ cond (eqb items 0) (first_given (last_rows faulty m)) items
    by_items = rows_then (whole_rows_of_all (items_of m)) (last_rows faulty m) (numbered_items (items_of m))

    pub by_parts : code_with faulty e rs m ≡ cond (eqb head 0) (cond (eqb items 0) (first_given (last_rows faulty m)) items) head
    by_parts = by_head ∙ ap (λ (x : ℕ). cond (eqb head 0) x head) by_items

    module _ {h : ℕ} (f : h ≡ first_given (head_rows e rs (head_of m))) where
      by_h : code_with faulty e rs m ≡ cond (eqb h 0) (cond (eqb items 0) (first_given (last_rows faulty m)) items) h
      by_h = by_parts ∙ ap (λ (x : ℕ). cond (eqb x 0) (cond (eqb items 0) (first_given (last_rows faulty m)) items) x) (sym f)

      pub head_first : (h ≡ 0 → ⊥) → h ≡ code_with faulty e rs m
      head_first g = sym (simp (ne_eqb h 0 g) at by_h)

      module _ (g : h ≡ 0) {i : ℕ} (k : i ≡ first_given (whole_rows_of_all (items_of m))) where
        by_i : code_with faulty e rs m ≡ cond (eqb i 0) (first_given (last_rows faulty m)) i
        by_i = (simp (eq-eqb h 0 g) at by_h) ∙ ap (λ (x : ℕ). cond (eqb x 0) (first_given (last_rows faulty m)) x) (sym k)

        pub items_first : (i ≡ 0 → ⊥) → i ≡ code_with faulty e rs m
        items_first j = sym (simp (ne_eqb i 0 j) at by_i)

        pub foot_last : i ≡ 0 → {c : ℕ} → c ≡ first_given (last_rows faulty m) → c ≡ code_with faulty e rs m
        foot_last j q = q ∙ sym (simp (eq-eqb i 0 j) at by_i)

-- the foot and its ending have 44 bytes
pub foot_long : (m : List ℕ) → is_fedjel m ≡ true → length (foot_ended m) ≡ 44
foot_long m e = omega (arith, (long m e).exact, length-drop (34 + item_count m * 72) m)

-- plain, part by part
module _ (m : List ℕ) {h : Bool} (head : h ≡ is_plain (head_of m)) where
  by_plain : h && (all is_plain (items_of m) && is_plain (foot_of m)) ≡ is_plain_message m
  unfolding is_plain_message
  by_plain = ap (λ (b : Bool). b && (all is_plain (items_of m) && is_plain (foot_of m))) head

  pub head_not_plain : h ≡ false → h ≡ is_plain_message m
  head_not_plain f = f ∙ simp f at by_plain

  module _ (t : h ≡ true) {a : Bool} (its : a ≡ all is_plain (items_of m)) where
    pub items_not_plain : a ≡ false → a ≡ is_plain_message m
    items_not_plain f =
        let i : all is_plain (items_of m) ≡ false = sym its ∙ f in
        f ∙ simp (t, i) at by_plain

    pub foot_plain : a ≡ true → {r : Bool} → r ≡ is_plain (foot_of m) → r ≡ is_plain_message m
    foot_plain f q =
        let i : all is_plain (items_of m) ≡ true = sym its ∙ f in
        q ∙ simp (t, i) at by_plain
