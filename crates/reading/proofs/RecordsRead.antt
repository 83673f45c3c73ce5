-- Reading a head, a reference and a foot as they are written gives back what was written, and finds them right.
-- Assumes nothing.
use mathlib.Core.Path.{◌≡◌, refl, ap, ◌∙◌}
use mathlib.Core.Bool.{true}
use mathlib.Core.List.{List, [], ◌∷◌, ◌++◌, append_assoc, append-nil}
use Prim.Native.Nat.{ℕ, ◌^◌, ◌≤◌, ◌<◌}
use native.Mathlib.Omega.{arith}
use lib.Dec.{lit≤}
use lib.ListN.{length, get_or, drop, replicate, length-append, length-drop}
use lib.Seq.{length-take-le}
use borrow.Author.Tests.{eq-eqb}
use Rattle.base.specs.Bytes.{ascii, field}
use Rattle.digits.specs.Digits.{is_digits, number_of, figures}
use Rattle.digits.proofs.Figures.{figures_length, figures_digits, read_back}
use Rattle.frame.specs.declared.Status.{Status}
use Rattle.frame.specs.Records.{ending}
use Rattle.status.specs.Records.{head_record, reference, foot_record, is_address}
use Rattle.fields.specs.Fields.{is_duplicate}
use Rattle.status.specs.Writing.{Writable}
use Rattle.reading.specs.Reading.{head_right, reference_right, foot_right}
use Rattle.reading.proofs.Parts.{Part, part, all, found, ended_at, digits_append}

-- a number of so many digits
abbrev figure : ℕ → ℕ → Part
figure w n = part (figures w n) w (figures_length w n)

number : (w n : ℕ) {x : List ℕ} → w ≤ 16 → n < 10 ^ w → x ≡ figures w n → number_of x ≡ n
number w n h k e = ap number_of e ∙ read_back w n h k

-- numbers one after the other are digits
digits_two : (w v n m : ℕ) → is_digits (figures w n ++ figures v m) ≡ true
digits_two w v n m = digits_append (figures w n) (figures v m) (figures_digits w n) (figures_digits v m)

digits_four : (w v u t n m l k : ℕ) → is_digits (figures w n ++ figures v m ++ (figures u l ++ figures t k)) ≡ true
digits_four w v u t n m l k = digits_append (figures w n ++ figures v m) (figures u l ++ figures t k) (digits_two w v n m) (digits_two u t l k)

-- eight parts, with the fourth to the seventh as one
eight_wide : (a b c d e f g h y : List ℕ) → a ++ b ++ c ++ d ++ e ++ f ++ g ++ h ++ y ≡ (a ++ (b ++ (c ++ ((d ++ e ++ (f ++ g)) ++ (h ++ []))))) ++ y
eight_wide a b c d e f g h y = simp (append_assoc, append-nil)

-- the head, with y after it
module _ (s : Status) (h : length s.id ≡ 25) (y : List ℕ) where
  abbrev x : List ℕ
  x = head_record (ascii "STATUS") s ++ y

  abbrev parts : List Part
  parts =
      part (ascii "01STATUS") 8 refl
      ∷ part (s.duplicate ∷ []) 1 refl
      ∷ part s.id 25 h
      ∷ figure 8 s.date
      ∷ figure 4 s.number
      ∷ figure 6 s.time
      ∷ figure 2 s.code
      ∷ part ending 2 refl
      ∷ []

  in_parts : x ≡ all parts ++ y
  unfolding head_record
  in_parts = simp append_assoc

  pub head_duplicate : get_or x 8 0 ≡ s.duplicate
  head_duplicate = ap (λ (z : List ℕ). get_or z 8 0) in_parts

  pub head_id : field 10 34 x ≡ s.id
  head_id = found x parts y in_parts 2

  module _ (w : Writable s) where
    pub head_date : number_of (field 35 42 x) ≡ s.date
    head_date = number 8 s.date (lit≤ tt) w.date (found x parts y in_parts 3)

    pub head_number : number_of (field 43 46 x) ≡ s.number
    head_number = number 4 s.number (lit≤ tt) w.number (found x parts y in_parts 4)

    pub head_time : number_of (field 47 52 x) ≡ s.time
    head_time = number 6 s.time (lit≤ tt) w.time (found x parts y in_parts 5)

    pub head_code : number_of (field 53 54 x) ≡ s.code
    head_code = number 2 s.code (lit≤ tt) w.code (found x parts y in_parts 6)

  -- positions 35-54 as one part
  abbrev digits : List ℕ
  digits = figures 8 s.date ++ figures 4 s.number ++ (figures 6 s.time ++ figures 2 s.code)

  abbrev wide : List Part
  wide =
      part (ascii "01STATUS") 8 refl
      ∷ part (s.duplicate ∷ []) 1 refl
      ∷ part s.id 25 h
      ∷ part digits 20 (simp (length-append, figures_length))
      ∷ part ending 2 refl
      ∷ []

  in_wide : x ≡ all wide ++ y
  unfolding head_record
  in_wide =
      eight_wide (ascii "01STATUS") (s.duplicate ∷ []) s.id (figures 8 s.date) (figures 4 s.number) (figures 6 s.time) (figures 2 s.code) ending
      y

  head_digits : is_digits (field 35 54 x) ≡ true
  head_digits = ap is_digits (found x wide y in_wide 3) ∙ digits_four 8 4 6 2 s.date s.number s.time s.code

  pub head_right_lem : is_duplicate s.duplicate ≡ true → is_address s.id ≡ true → head_right x ≡ true
  unfolding head_right
  head_right_lem d a = rw (found x parts y in_parts 0, head_duplicate, d, head_id, a, head_digits, ended_at 54 x (found x parts y in_parts 7))

-- a reference
module _ (k c : ℕ) (r : List ℕ) (h : length r ≡ 249) where
  abbrev q : List ℕ
  q = reference k c r

  abbrev q_parts : List Part
  q_parts =
      part (ascii "02") 2 refl
      ∷ figure 6 k
      ∷ figure 2 c
      ∷ part (replicate 29 0x20) 29 refl
      ∷ part (field 51 74 r) 24 (length-take-le 24 (drop 50 r) (omega (arith, length-drop 50 r)))
      ∷ part ending 2 refl
      ∷ []

  q_in_parts : q ≡ all q_parts ++ []
  unfolding reference
  q_in_parts = simp (append_assoc, append-nil)

  pub reference_code : c < 10 ^ 2 → number_of (field 9 10 q) ≡ c
  reference_code l = number 2 c (lit≤ tt) l (found q q_parts [] q_in_parts 2)

  pub reference_right_lem : k < 10 ^ 6 → reference_right k q ≡ true
  unfolding reference_right
  reference_right_lem l =
      let p = found q q_parts [] q_in_parts in
      rw (p 0, p 1, figures_digits 6 k, read_back 6 k (lit≤ tt) l, eq-eqb k k refl, p 2, figures_digits 2 c, ended_at 63 q (p 5))

-- the foot
module _ (s : Status) where
  abbrev f : List ℕ
  f = foot_record s

  abbrev f_parts : List Part
  f_parts =
      part (ascii "03") 2 refl
      ∷ figure 6 s.accepted.count
      ∷ figure 16 s.accepted.sum
      ∷ figure 6 s.refused.count
      ∷ figure 16 s.refused.sum
      ∷ part ending 2 refl
      ∷ []

  f_in_parts : f ≡ all f_parts ++ []
  unfolding foot_record
  f_in_parts = simp (append_assoc, append-nil)

  module _ (w : Writable s) where
    pub foot_accepted : number_of (field 3 8 f) ≡ s.accepted.count
    foot_accepted = number 6 s.accepted.count (lit≤ tt) w.accepted.count (found f f_parts [] f_in_parts 1)

    pub foot_accepted_sum : number_of (field 9 24 f) ≡ s.accepted.sum
    foot_accepted_sum = number 16 s.accepted.sum (lit≤ tt) w.accepted.sum (found f f_parts [] f_in_parts 2)

    pub foot_refused : number_of (field 25 30 f) ≡ s.refused.count
    foot_refused = number 6 s.refused.count (lit≤ tt) w.refused.count (found f f_parts [] f_in_parts 3)

    pub foot_refused_sum : number_of (field 31 46 f) ≡ s.refused.sum
    foot_refused_sum = number 16 s.refused.sum (lit≤ tt) w.refused.sum (found f f_parts [] f_in_parts 4)

  -- positions 3-46 as one part
  abbrev f_digits : List ℕ
  f_digits = figures 6 s.accepted.count ++ figures 16 s.accepted.sum ++ (figures 6 s.refused.count ++ figures 16 s.refused.sum)

  abbrev f_wide : List Part
  f_wide = part (ascii "03") 2 refl ∷ part f_digits 44 (simp (length-append, figures_length)) ∷ part ending 2 refl ∷ []

  f_in_wide : f ≡ all f_wide ++ []
  unfolding foot_record
  f_in_wide = simp (append_assoc, append-nil)

  foot_digits : is_digits (field 3 46 f) ≡ true
  foot_digits =
      ap is_digits (found f f_wide [] f_in_wide 1)
      ∙ digits_four 6 16 6 16 s.accepted.count s.accepted.sum s.refused.count s.refused.sum

  pub foot_right_lem : foot_right f ≡ true
  unfolding foot_right
  foot_right_lem = rw (found f f_parts [] f_in_parts 0, foot_digits, ended_at 46 f (found f f_parts [] f_in_parts 5))
