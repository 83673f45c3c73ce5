-- The lines of `banks`: a walk over them that asks each number to be at least one above the one before it, and their numbers, one more at a time.
-- Assumes nothing.
use mathlib.Core.Path.{◌≡◌, refl, sym, ap, ◌∙◌}
use mathlib.Core.Bool.{Bool, true, false, ◌&&◌, and-true}
use mathlib.Core.List.{List, [], ◌∷◌, ◌++◌}
use Prim.Native.Nat.{ℕ, zero, suc, ◌+◌, ◌-◌, ◌*◌, ◌/◌, ◌^◌, ◌<◌, ◌≤◌}
use native.Mathlib.Nat.{add-sub_cancel_left, pow-le-pow_right}
use native.Mathlib.Numerals.{add-one}
use native.Mathlib.Omega.{arith}
use lib.Dec.{leb, lit<}
use lib.ListN.{length, take, drop, set, length-take, length-append}
use lib.Seq.{drop-drop, take_at, drop_at}
use Rattle.std.proofs.lemmas.List.{take-append-le}
use borrow.Author.Tests.{le-leb, lt-leb}
use Rattle.base.specs.Bytes.{every, over}
use Rattle.base.proofs.Over.{length_over, over_none, over_set}
use Rattle.digits.specs.Digits.{number_of}
use Rattle.digits.proofs.Value.{number_lt}
use Rattle.lists.specs.Banks.{above, ascends, is_bank_list}
use Rattle.files.specs.Files.{is_line, are_lines, numbers_of, numbers, ordered}

-- eight bytes stand for at most eight digits
pub small : (s : List ℕ) → number_of (take 8 s) < 100000000
small s =
    let h : length (take 8 s) ≤ 8 = simp length-take (omega arith) in
    let p : 10 ^ length (take 8 s) ≤ 10 ^ 8 = pow-le-pow_right (lit< tt) h in
    omega (arith, number_lt (take 8 s))

-- n lines from here on are right, and the first number is at least so much
abbrev rises : ℕ → ℕ → List ℕ → Bool
rises l zero s = true
rises l (suc n) s = is_line (take 9 s) && (leb l (number_of (take 8 s)) && rises (number_of (take 8 s) + 1) n (drop 9 s))

-- the numbers are above one another, and the first is at least so much
abbrev from : ℕ → List ℕ → Bool
from l [] = true
from l (x ∷ xs) = leb l x && from (x + 1) xs

exchange : (p q r t : Bool) → p && (q && (r && t)) ≡ (p && r) && (q && t)
exchange true true r t = refl
exchange true false true t = refl
exchange true false false t = refl
exchange false q r t = refl

apart : (l n : ℕ) (s : List ℕ) → rises l n s ≡ are_lines n s && from l (numbers_of n s)
apart l zero s = refl
apart l (suc n) s =
    let x = number_of (take 8 s) in
    simp (apart (x + 1) n (drop 9 s)) (exchange (is_line (take 9 s)) (leb l x) (are_lines n (drop 9 s)) (from (x + 1) (numbers_of n (drop 9 s))))

from_above : (p : ℕ) (xs : List ℕ) → from (p + 1) xs ≡ above p xs
from_above p [] = refl
from_above p (x ∷ xs) = ap (λ (b : Bool). leb (p + 1) x && b) (from_above x xs) ∙ simp add-one

from_none : (xs : List ℕ) → from 0 xs ≡ ascends xs
from_none [] = refl
from_none (x ∷ xs) = ap (λ (b : Bool). b && from (x + 1) xs) (le-leb 0 x (omega arith)) ∙ from_above x xs

eight : (n : ℕ) (s : List ℕ) → every (λ x. leb x 99999999) (numbers_of n s) ≡ true
eight zero s = refl
eight (suc n) s =
    let h = small s in
    let k : number_of (take 8 s) ≤ 99999999 = omega arith in
    simp (le-leb (number_of (take 8 s)) 99999999 k) (eight n (drop 9 s))

whole : (n : ℕ) (s : List ℕ) → rises 0 n s ≡ are_lines n s && is_bank_list (numbers_of n s)
whole n s = simp (apart 0 n s, from_none, eight n s, and-true)

-- the lines that are left decide as all do
pub record Walked (s rest : List ℕ) (least : ℕ) : Type 0 where
  pub left : rises least (length rest / 9) rest ≡ ordered s

pub start : (s : List ℕ) → Walked s s 0
start s = record { left = whole (length s / 9) s }

pub ends : {s rest : List ℕ} {least : ℕ} → Walked s rest least → length rest < 9 → true ≡ ordered s
ends {s} {rest} {least} w h =
    let z : length rest / 9 ≡ 0 = omega arith in
    simp z at w.left

-- a line and what follows it
module _ {s rest : List ℕ} {least : ℕ} (w : Walked s rest least) (line after : List ℕ) (e : rest ≡ line ++ after) (h : length line ≡ 9) where
  turn : is_line line && (leb least (number_of (take 8 line)) && rises (number_of (take 8 line) + 1) (length after / 9) after) ≡ ordered s
  turn =
      let z : length (line ++ after) / 9 ≡ suc (length after / 9) = omega (arith, length-append line after) in
      let n : take 9 (line ++ after) ≡ line = take_at line after 9 h in
      let d : drop 9 (line ++ after) ≡ after = drop_at line after 9 h in
      let k : take 8 (line ++ after) ≡ take 8 line = take-append-le 8 line after (omega arith) in
      simp (e, z, n, d, k) at w.left

  pub no_line : (r : Bool) → r ≡ is_line line → r ≡ false → false ≡ ordered s
  no_line r i f = simp (← i, f) at turn

  module _ (r : Bool) (i : r ≡ is_line line) (f : r ≡ true) (x : ℕ) (g : x ≡ number_of (take 8 line)) where
    pub not_above : x < least → false ≡ ordered s
    not_above j = simp (← i, f, ← g, lt-leb least x j) at turn

    pub on : least ≤ x → Walked s after (x + 1)
    on j = record { left = simp (← i, f, ← g, le-leb least x j) at turn }

-- the numbers of k lines are k
pub count : (k : ℕ) (s : List ℕ) → length (numbers_of k s) ≡ k
count zero s = refl
count (suc k) s = ap suc (count k (drop 9 s))

-- one line more
more : (k : ℕ) (s : List ℕ) → numbers_of (suc k) s ≡ numbers_of k s ++ (number_of (take 8 (drop (k * 9) s)) ∷ [])
more zero s = refl
more (suc k) s =
    let z : suc k * 9 ≡ 9 + k * 9 = omega arith in
    ap (λ (l : List ℕ). number_of (take 8 s) ∷ l) (more k (drop 9 s)) ∙ simp (z, drop-drop)

-- the numbers of k lines stand at the front of a list
pub record Filled (list₀ s : List ℕ) (list : List ℕ) (k : ℕ) : Type 0 where
  pub room : length s / 9 ≤ length list₀
  pub within : k ≤ length s / 9
  pub stands : list ≡ over list₀ 0 (numbers_of k s)

pub empty : (list s : List ℕ) → length s / 9 ≤ length list → Filled list s list 0
empty list s h = record { room = h; within = omega arith; stands = sym (over_none list 0) }

module _ {list₀ s list : List ℕ} {k : ℕ} (w : Filled list₀ s list k) where
  pub as_long : length list ≡ length list₀
  as_long = ap length w.stands ∙ length_over list₀ 0 (numbers_of k s) (omega (arith, count k s))

  pub full : length s / 9 ≤ k → list ≡ over list₀ 0 (numbers s)
  full h =
      let e : k ≡ length s / 9 = omega arith in
      w.stands ∙ ap (λ (n : ℕ). over list₀ 0 (numbers_of n s)) e

  module _ (h : k < length s / 9) (x : ℕ) (g : x ≡ number_of (take (k * 9 + 8 - k * 9) (drop (k * 9) s))) where
    is_last : x ≡ number_of (take 8 (drop (k * 9) s))
    is_last = let y : k * 9 + 8 - k * 9 ≡ 8 = add-sub_cancel_left (k * 9) 8 in simp y at g

    pub fits : x < 100000000
    fits = omega (arith, is_last, small (drop (k * 9) s))

    pub one_more : Filled list₀ s (set list k x) (k + 1)
    one_more =
        let d = numbers_of k s in
        let c : length d ≡ k = count k s in
        let o : set (over list₀ 0 d) (0 + length d) x ≡ over list₀ 0 (d ++ (x ∷ [])) = over_set list₀ 0 d x (omega arith) in
        let z : 0 + length d ≡ k = omega arith in
        record {
          room = w.room;
          within = omega arith;
          stands =
              ap (λ (l : List ℕ). set l k x) w.stands
              ∙ rw z at o
              ∙ ap (over list₀ 0) (ap (λ (y : ℕ). d ++ (y ∷ [])) is_last ∙ sym (rw add-one (more k s)));
        }
