-- `reading::are_parts` meets its contract: each part decides in its turn.
-- Assumes nothing.
use mathlib.Core.List.{List}
use mathlib.Core.Bool.{Bool, true, false, cond, ◌&&◌}
use mathlib.Core.Path.{◌≡◌, refl, sym, ap, ◌∙◌}
use Prim.Native.Nat.{ℕ, ◌+◌, ◌-◌, ◌*◌, ◌≤◌}
use native.Mathlib.Omega.{arith}
use lib.ListN.{length, take, drop, length-drop}
use lib.Seq.{length-take-le}
use Rattle.std.specs.Prelude.{Some, None}
use Rattle.base.proofs.Parts.{tail}
use Rattle.reading.proofs.References.{foot_lent, codes_length, zeros_others, zeros_few}
use Rattle.reading.specs.Checking.{parts_right, zeros_of, counts_are}
use Rattle.reading.specs.Reading.{
  count_of,
  head_in,
  references_in,
  foot_in,
  head_right,
  references_right,
  foot_right,
  codes_in,
  zeros_in,
  others_in,
  status_in,
  counts_right,
}
use Rattle.frame.specs.declared.Status.{Status}
use Rattle.reading.proofs.are_parts.Goals as goal

none_some : {A : Type 0} {a : A} → None ≡ Some a → ⊥
none_some e = cc

module _ (x : List ℕ) where
  no_head : head_right (head_in x) ≡ false → false ≡ parts_right x
  unfolding parts_right
  no_head e = rw e

  module _ (h : head_right (head_in x) ≡ true) where
    no_references : references_right 1 (references_in x) ≡ false → false ≡ parts_right x
    unfolding parts_right
    no_references e = rw (h, e)

    counts : references_right 1 (references_in x) ≡ true → parts_right x ≡ foot_right (foot_in x) && counts_right (status_in x) (codes_in x)
    unfolding parts_right
    counts r = rw (h, r)

  -- the walk over the references decides
  none : None ≡ zeros_of x → references_right 1 (references_in x) ≡ false
  none e = go (references_right 1 (references_in x)) e
    where
      go : (b : Bool) → None ≡ cond b (Some (zeros_in (codes_in x))) None → b ≡ false
      go true q = absurd (none_some q)
      go false q = refl

  some : {z : ℕ} → Some z ≡ zeros_of x → (references_right 1 (references_in x) ≡ true) × (z ≡ zeros_in (codes_in x))
  some {z} e = go (references_right 1 (references_in x)) e
    where
      go : (b : Bool) → Some z ≡ cond b (Some (zeros_in (codes_in x))) None → (b ≡ true) × (z ≡ zeros_in (codes_in x))
      go true q = (refl, cc)
      go false q = absurd (none_some (sym q))

  references_said : (status_in x).references ≡ count_of x
  unfolding status_in
  references_said = refl

  module _ {s : Status} (e : s ≡ status_in x) where
    referred : s.references ≡ count_of x
    referred = rw e references_said

    -- the foot as code lends it
    foot_is : {b : Bool} → b ≡ foot_right (take (length x - (56 + 65 * s.references)) (drop (56 + 65 * s.references) x)) → b ≡ foot_right (foot_in x)
    foot_is p = p ∙ ap foot_right (foot_lent x referred)

    module _ {z : ℕ} (f : Some z ≡ zeros_of x) where
      few : z ≤ s.references
      few = omega (arith, (some f).1, referred, zeros_few (codes_in x), codes_length x (count_of x))

      counted : {b : Bool} → b ≡ counts_are s z (s.references - z) → b ≡ counts_right (status_in x) (codes_in x)
      unfolding counts_are counts_right
      counted p =
          let o : count_of x - zeros_in (codes_in x) ≡ others_in (codes_in x) = omega (arith, zeros_others (codes_in x), codes_length x (count_of x)) in
          p ∙ rw (e, (some f).1, references_said, o)

      module _ (h : head_right (head_in x) ≡ true) {b : Bool} (p : b ≡ foot_right (foot_in x)) where
        whole : b ≡ true → {r : Bool} → r ≡ counts_are s z (s.references - z) → r ≡ parts_right x
        whole t q = counted q ∙ sym (counts h (some f).0 ∙ rw (sym p ∙ t))

        no_foot : b ≡ false → b ≡ parts_right x
        no_foot t = t ∙ sym (counts h (some f).0 ∙ rw (sym p ∙ t))

pub slice_bounds-is_head-end : goal.slice_bounds-is_head-end
slice_bounds-is_head-end c = omega (arith, length-take-le 56 c.args.x.now (omega (arith, c.requires.0)))

pub is_head-requires : goal.is_head-requires
is_head-requires c = length-take-le 56 c.args.x.now (omega (arith, c.requires.0))

pub returns-then-not-is_head : goal.returns-then-not-is_head
returns-then-not-is_head c = no_head c.args.x.now (sym c.is_head.ensures ∙ c.if-not-is_head.true)

pub returns-in-None : goal.returns-in-None
returns-in-None c = no_references c.args.x.now (sym c.is_head.ensures ∙ c.if-not-is_head.false) (none c.args.x.now c.in-None.ensures)

pub overflow_mul-s : goal.overflow_mul-s
overflow_mul-s c = omega (arith, c.requires.0, referred c.args.x.now c.requires.1)

pub overflow_add-s : goal.overflow_add-s
overflow_add-s c = omega (arith, c.requires.0, referred c.args.x.now c.requires.1)

pub slice_bounds-is_foot-count : goal.slice_bounds-is_foot-count
slice_bounds-is_foot-count c = omega (arith, c.requires.0, referred c.args.x.now c.requires.1)

pub slice_bounds-is_foot-start : goal.slice_bounds-is_foot-start
slice_bounds-is_foot-start c = omega (arith, c.requires.0, referred c.args.x.now c.requires.1)

pub is_foot-requires : goal.is_foot-requires
is_foot-requires c =
    let n = 56 + 65 * c.args.s.references in
    omega (arith, c.requires.0, referred c.args.x.now c.requires.1, ap length (tail c.args.x.now n), length-drop n c.args.x.now)

pub are_counts-requires : goal.are_counts-requires
are_counts-requires c = few c.args.x.now c.requires.1 c.in-Some.ensures

pub returns-then-is_foot : goal.returns-then-is_foot
returns-then-is_foot c = whole c.args.x.now c.requires.1 c.in-Some.ensures (sym c.is_head.ensures ∙ c.if-not-is_head.false)
    (foot_is c.args.x.now c.requires.1 c.is_foot.ensures) c.if-is_foot.true c.are_counts.ensures

pub returns-else-is_foot : goal.returns-else-is_foot
returns-else-is_foot c = no_foot c.args.x.now c.requires.1 c.in-Some.ensures (sym c.is_head.ensures ∙ c.if-not-is_head.false)
    (foot_is c.args.x.now c.requires.1 c.is_foot.ensures) c.if-is_foot.false
