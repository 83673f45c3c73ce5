-- What is found in head, item and foot fits: codes are below 100, an amount has ten digits.
-- Assumes nothing.
use mathlib.Core.Path.{◌≡◌, refl}
use mathlib.Core.Bool.{Bool, true, false, cond, ◌&&◌}
use mathlib.Core.List.{List, []}
use Prim.Native.Nat.{ℕ, ◌^◌, ◌<◌}
use native.Mathlib.Omega.{arith}
use lib.Dec.{eqb, lit<}
use lib.ListN.{length, take, drop, length-drop}
use lib.Seq.{length-take-le}
use borrow.Author.Tests.{eqb-true}
use Rattle.base.specs.Bytes.{field}
use Rattle.digits.specs.Digits.{number_of}
use Rattle.digits.proofs.Value.{number_lt}
use Rattle.frame.specs.declared.Found.{Found}
use Rattle.frame.specs.Machine.{earlier}
use Rattle.fields.specs.Fields.{digits_of, total_code}
use Rattle.findings.proofs.Row.{earlier_lt}
use Rattle.findings.proofs.Small.{first_whole_lt, first_alone_lt}
use Rattle.kinds.specs.Kinds.{kind_of, tables}
use Rattle.kinds.specs.Codes.{head_rules, item_rules, head_code, item_found, foot_code}
use Rattle.kinds.proofs.Tables.{two_digits}

chosen_lt : (t : Bool) (c d : ℕ) → c < 100 → d < 100 → cond t c d < 100
chosen_lt true c d p q = p
chosen_lt false c d p q = q

pub head_small : (e : ℕ) (is_listed : ℕ → Bool) (known r : List ℕ) → head_code e is_listed known r < 100
unfolding head_code head_rules
head_small e is_listed known r =
    let t = (tables (kind_of r) e is_listed).head known r in
    chosen_lt (eqb (length r) 174) _ 26 (first_whole_lt t (two_digits e is_listed (kind_of r) 0 known r).0) (lit< tt)

pub record Small (x : Found) : Type 0 where
  pub fault : x.fault < 100
  pub code : x.code < 100
  pub amount : x.amount < 10 ^ 10

-- either of two
one_of : (t : Bool) (x y : Found) → (t ≡ true → Small x) → Small y → Small (cond t x y)
one_of true x y f g = f refl
one_of false x y f g = g

-- the amount's field has ten bytes
amount_lt : (r : List ℕ) → length r ≡ 249 → number_of (field 17 26 r) < 10 ^ 10
amount_lt r h =
    let e : length (take 10 (drop 16 r)) ≡ 10 = length-take-le 10 (drop 16 r) (omega (arith, length-drop 16 r)) in
    rw e at (number_lt (take 10 (drop 16 r)))

pub small : (kind e : ℕ) (is_listed : ℕ → Bool) (k : ℕ) (r : List ℕ) → Small (item_found kind e is_listed k r)
unfolding item_found item_rules
small kind e is_listed k r =
    let t = (tables kind e is_listed).item k r in
    let s = (two_digits e is_listed kind k [] r).1 in
    one_of (eqb (length r) 249) _ _
    (λ h. record { fault = first_whole_lt t s; code = first_alone_lt t s; amount = amount_lt r (eqb-true (length r) 249 h) })
    (record { fault = lit< tt; code = lit< tt; amount = lit< tt })

pub foot_small : (count sum : ℕ) (r : List ℕ) → foot_code count sum r < 100
unfolding foot_code
foot_small count sum r =
    let c = total_code 6 count 18 (field 3 8 r) in
    let d = total_code 16 sum 19 (field 9 24 r) in
    let p : d < 100 =
    chosen_lt (digits_of 16 (field 9 24 r) && eqb (number_of (field 9 24 r)) sum) 0 19 (lit< tt) (lit< tt) in
    let q : c < 100 =
    chosen_lt (digits_of 6 (field 3 8 r) && eqb (number_of (field 3 8 r)) count) 0 18 (lit< tt) (lit< tt) in
    chosen_lt (eqb (length r) 24) (earlier c (earlier d 0)) 26 (earlier_lt c (earlier d 0) q (earlier_lt d 0 p (lit< tt))) (lit< tt)
