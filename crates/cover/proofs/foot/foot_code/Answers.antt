-- `cover::foot::foot_code` meets its contract: the type, then the totals that apply.
-- Assumes nothing.
use mathlib.Core.Path.{◌≡◌, sym, ap, ◌∙◌}
use mathlib.Core.Bool.{Bool, true, false, cond}
use mathlib.Core.List.{List}
use Prim.Native.Nat.{ℕ}
use Rattle.base.specs.Bytes.{ascii, field, same}
use Rattle.base.specs.Tables.{first_given}
use Rattle.frame.specs.declared.Totals.{Totals}
use Rattle.cover.specs.Foot.{typed_rows, joint_rows, foot_rows}
use Rattle.cover.proofs.foot.foot_code.Goals as goal

module _ (faulty : Bool) (a b all : Totals) (f : List ℕ) where
  no_foot : same (field 1 2 f) (ascii "04") ≡ false → 47 ≡ first_given (foot_rows faulty a b all f)
  unfolding foot_rows
  no_foot e = simp e

  module _ (e : same (field 1 2 f) (ascii "04") ≡ true) where
    a_foot : first_given (foot_rows faulty a b all f) ≡ first_given (cond faulty (joint_rows all.count all.sum f) (typed_rows a b f))
    unfolding foot_rows
    a_foot = simp e

    joint : faulty ≡ true → {c : ℕ} → c ≡ first_given (joint_rows all.count all.sum f) → c ≡ first_given (foot_rows faulty a b all f)
    joint t q =
        q ∙ sym (a_foot ∙ ap (λ (x : Bool). first_given (cond x (joint_rows all.count all.sum f) (typed_rows a b f))) t)

    typed : faulty ≡ false → {c : ℕ} → c ≡ first_given (typed_rows a b f) → c ≡ first_given (foot_rows faulty a b all f)
    typed t q =
        q ∙ sym (a_foot ∙ ap (λ (x : Bool). first_given (cond x (joint_rows all.count all.sum f) (typed_rows a b f))) t)

pub returns-then-not-is_same : goal.returns-then-not-is_same
returns-then-not-is_same c =
    let a = c.args in
    no_foot a.faulty a.a a.b a.all a.foot.now (sym c.is_same.ensures ∙ c.if-not-is_same.true)

pub returns-then-faulty : goal.returns-then-faulty
returns-then-faulty c =
    let a = c.args in
    let e = sym c.is_same.ensures ∙ c.if-not-is_same.false in
    joint a.faulty a.a a.b a.all a.foot.now e c.if-faulty.true c.joint_code.ensures

pub returns : goal.returns
returns c =
    let a = c.args in
    let e = sym c.is_same.ensures ∙ c.if-not-is_same.false in
    typed a.faulty a.a a.b a.all a.foot.now e c.if-faulty.false c.typed_code.ensures
