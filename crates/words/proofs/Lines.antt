-- Where a line of a table begins and ends; and the lines of a table that is made of words are these words.
-- Assumes nothing.
use mathlib.Core.Path.{◌≡◌, refl, sym, ap, ◌∙◌}
use mathlib.Core.Bool.{Bool, true, false, cond, not, ◌&&◌}
use mathlib.Core.List.{List, [], ◌∷◌, ◌++◌}
use Prim.Native.Nat.{ℕ, zero, suc, ◌+◌, ◌-◌, ◌≤◌, ◌<◌}
use native.Mathlib.Omega.{arith}
use lib.Dec.{eqb}
use lib.ListN.{length, get_or, take, drop, length-drop}
use lib.Seq.{take_at, take_all}
use borrow.Author.Tests.{ltb-true, ltb-false, not-true}
use Rattle.std.proofs.Common.{Option, Some, None}
use Rattle.std.specs.Prelude.{position, nat_lt, MatchOption}
use Rattle.std.specs.List.{prefix_len}
use Rattle.base.specs.Bytes.{every}
use Rattle.base.proofs.Every.{both}
use Rattle.text.specs.Text.{with_bytes_at, after_bytes}
use Rattle.text.proofs.At.{PutAt}
use Rattle.words.specs.Lines.{line_length, after_line, after_lines, line_at}

-- the bytes before the first line end are the first line
passed : (t : List ℕ) → prefix_len (λ b. not (eqb b 10)) t ≡ line_length t
passed [] = refl
passed (b ∷ t) = go (eqb b 10) (passed t)
  where
    go : (e : Bool) → prefix_len (λ x. not (eqb x 10)) t ≡ line_length t
        → cond (not e) (1 + prefix_len (λ x. not (eqb x 10)) t) 0 ≡ cond e 0 (line_length t + 1)
    go true h = refl
    go false h = omega arith

-- what follows a line that has an end
after_end : (t : List ℕ) → line_length t < length t → drop (line_length t + 1) t ≡ after_line t
after_end [] h = absurd (omega arith)
after_end (b ∷ t) h = go (eqb b 10) h (after_end t)
  where
    go : (e : Bool) → cond e 0 (line_length t + 1) < length (b ∷ t) → (line_length t < length t → drop (line_length t + 1) t ≡ after_line t)
        → drop (cond e 0 (line_length t + 1) + 1) (b ∷ t) ≡ cond e t (after_line t)
    go true h k = refl
    go false h k =
        let z : line_length t + 1 + 1 ≡ suc (line_length t + 1) = omega arith in
        rw z (k (omega arith))

-- and a line that has none
after_none : (t : List ℕ) → length t ≤ line_length t → after_line t ≡ []
after_none [] h = refl
after_none (b ∷ t) h = go (eqb b 10) h (after_none t)
  where
    go : (e : Bool) → length (b ∷ t) ≤ cond e 0 (line_length t + 1) → (length t ≤ line_length t → after_line t ≡ []) → cond e t (after_line t) ≡ []
    go true h k = absurd (omega arith)
    go false h k = k (omega arith)

-- what the place of the first line end says
told : (n l : ℕ) (e : Bool) (r : Option ℕ) → nat_lt n l ≡ e → cond e (Some n) None ≡ r → MatchOption r (l ≤ n) (λ k. (k ≡ n) × (n < l))
told n l true (Some k) e q = (sym (let x : n ≡ k = cc in x), ltb-true n l e)
told n l true None e q = absurd (cc)
told n l false (Some k) e q = absurd (cc)
told n l false None e q = ltb-false n l e

module _ (t : List ℕ) {r : Option ℕ} (p : r ≡ position (λ b. eqb b 10) t) where
  there : {i : ℕ} → r ≡ Some i → (i ≡ line_length t) × (line_length t < length t)
  there {i} e =
      let h = told (prefix_len (λ b. not (eqb b 10)) t) (length t) _ (Some i) refl (sym p ∙ e) in
      rw (passed t) at h

  none : r ≡ None → length t ≤ line_length t
  none e =
      let h = told (prefix_len (λ b. not (eqb b 10)) t) (length t) _ None refl (sym p ∙ e) in
      rw (passed t) at h

  pub inside : {i : ℕ} → r ≡ Some i → i < length t
  inside e = let h = there e in omega (arith, h.0, h.1)

  pub line : {i : ℕ} → r ≡ Some i → take i t ≡ take (line_length t) t
  line e = ap (λ (n : ℕ). take n t) (there e).0

  pub whole : r ≡ None → t ≡ take (line_length t) t
  whole e = sym (take_all (line_length t) t (none e))

  pub rest : {i : ℕ} → r ≡ Some i → take (length t - (i + 1)) (drop (i + 1) t) ≡ after_line t
  rest {i} e =
      let h = there e in
      let d = take_all (length t - (i + 1)) (drop (i + 1) t) (omega (arith, length-drop (i + 1) t)) in
      d ∙ ap (λ (n : ℕ). drop (n + 1) t) h.0 ∙ after_end t h.1

  pub no_rest : r ≡ None → [] ≡ after_line t
  no_rest e = sym (after_none t (none e))

-- at the k-th line, the lines to go lead where all of them do
pub record Going (t : List ℕ) (n : ℕ) (rest : List ℕ) (k : ℕ) : Type 0 where
  pub same : after_lines rest (n - k) ≡ after_lines t n

pub begin : (t : List ℕ) (n : ℕ) → Going t n t 0
begin t n = let z : n - 0 ≡ n = omega arith in record { same = ap (after_lines t) z }

module _ {t : List ℕ} {n : ℕ} {rest : List ℕ} {k : ℕ} (g : Going t n rest k) where
  pub on : k < n → {r : List ℕ} → r ≡ after_line rest → Going t n r (k + 1)
  on h {r} e =
      let z : n - k ≡ suc (n - (k + 1)) = omega arith in
      record { same = ap (λ (l : List ℕ). after_lines l (n - (k + 1))) e ∙ sym (ap (after_lines rest) z) ∙ g.same }

  pub arrived : n ≤ k → {l : List ℕ} → l ≡ take (line_length rest) rest → l ≡ line_at t n
  unfolding line_at
  arrived h {l} e =
      let z : n - k ≡ 0 = omega arith in
      let s : rest ≡ after_lines t n = sym (ap (after_lines rest) z) ∙ g.same in
      e ∙ ap (λ (x : List ℕ). take (line_length x) x) s

-- a table of words, each with a line end after it
abbrev pub joined : List (List ℕ) → List ℕ
joined [] = []
joined (w ∷ ws) = w ++ (0x0a ∷ joined ws)

-- no word has a line end in it
abbrev in_line : List ℕ → Bool
in_line = every (λ b. not (eqb b 0x0a))

abbrev pub all_in_line : List (List ℕ) → Bool
all_in_line [] = true
all_in_line (w ∷ ws) = in_line w && all_in_line ws

module _ (r : List ℕ) where
  past : (w : List ℕ) → in_line w ≡ true → after_line (w ++ (0x0a ∷ r)) ≡ r
  past [] e = refl
  past (b ∷ w) e =
      let h = both (not (eqb b 0x0a)) (in_line w) e in
      rw (not-true (eqb b 0x0a) h.0) (past w h.1)

  long : (w : List ℕ) → in_line w ≡ true → line_length (w ++ (0x0a ∷ r)) ≡ length w
  long [] e = refl
  long (b ∷ w) e =
      let h = both (not (eqb b 0x0a)) (in_line w) e in
      rw (not-true (eqb b 0x0a) h.0) (let l = long w h.1 in omega arith)

-- the n-th line of a table of words is the n-th word
lines_none : (n : ℕ) → after_lines [] n ≡ []
lines_none zero = refl
lines_none (suc n) = lines_none n

word : (ws : List (List ℕ)) → all_in_line ws ≡ true → (n : ℕ) → line_at (joined ws) n ≡ get_or ws n []
unfolding line_at
word [] e n = ap (λ (s : List ℕ). take (line_length s) s) (lines_none n)
word (w ∷ ws) e zero = rw (long (joined ws) w (both (in_line w) (all_in_line ws) e).0) (take_at w (0x0a ∷ joined ws) (length w) refl)
word (w ∷ ws) e (suc n) =
    let h = both (in_line w) (all_in_line ws) e in
    ap (λ (s : List ℕ). take (line_length (after_lines s n)) (after_lines s n)) (past (joined ws) w h.0) ∙ word ws h.1 n

-- what was put is the same bytes
pub same_put : (out : List ℕ) (at : ℕ) {s d : List ℕ} → s ≡ d → {r : ℕ} {out' : List ℕ} → PutAt out at s r out' → PutAt out at d r out'
same_put out at e p = (p.0 ∙ ap (after_bytes out at) e, p.1 ∙ ap (with_bytes_at out at) e)

-- so what was put of such a table is that word
pub put : (out : List ℕ) (at : ℕ) {t : List ℕ} (ws : List (List ℕ)) → t ≡ joined ws → all_in_line ws ≡ true → {d : List ℕ} (n : ℕ) → get_or ws n [] ≡ d
    → {r : ℕ} {out' : List ℕ} → PutAt out at (line_at t n) r out' → PutAt out at d r out'
put out at ws e f n g p = same_put out at (ap (λ (l : List ℕ). line_at l n) e ∙ word ws f n ∙ g) p
