-- Texts put one after the other into the output.
-- Assumes nothing.
use mathlib.Core.Path.{◌≡◌, ap, ◌∙◌}
use mathlib.Core.Bool.{true}
use mathlib.Core.List.{List, ◌++◌}
use Prim.Native.Nat.{ℕ, ◌+◌, ◌≤◌, ◌<◌}
use native.Mathlib.Omega.{arith}
use lib.Dec.{leb}
use lib.ListN.{length, length-append}
use borrow.Author.Tests.{le-leb, lt-leb}
use Rattle.base.specs.Bytes.{over}
use Rattle.base.specs.Put.{Written, Put}
use Rattle.base.proofs.Over.{length_over, over_over}

-- the front of what has room has room
pub front : (n a : ℕ) (d e : List ℕ) → a + length (d ++ e) ≤ n → a + length d ≤ n
front n a d e h = omega (arith, length-append d e)

module _ {x : List ℕ} {a : ℕ} {d : List ℕ} {i : ℕ} {y : List ℕ} (p : Put x a d i y) where
  pub kept : a + length d ≤ length x → length y ≡ length x
  kept h = ap length p.bytes ∙ length_over x a d h

  module _ (e : List ℕ) (h : a + length (d ++ e) ≤ length x) where
    -- what comes next has room
    pub room : i + length e ≤ length y
    room = omega (arith, p.next, length-append d e, kept (front (length x) a d e h))

    -- one after the other is both at once
    pub both : {j : ℕ} {z : List ℕ} → Put y i e j z → Put x a (d ++ e) j z
    both {j} {z} q =
        let l = length-append d e in
        let o : over (over x a d) (a + length d) e ≡ over x a (d ++ e) = over_over x a d e (omega arith) in
        record {
          next = omega (arith, p.next, q.next);
          bytes = q.bytes ∙ ap (λ (k : ℕ). over y k e) p.next ∙ ap (λ (s : List ℕ). over s (a + length d) e) p.bytes ∙ o;
        }

-- three texts, one after the other
module _ (x : List ℕ) (a : ℕ) (d e f : List ℕ) (h : a + length (d ++ e ++ f) ≤ length x) where
  two_fit : a + length (d ++ e) ≤ length x
  two_fit = front (length x) a (d ++ e) f h

  pub one : a + length d ≤ length x
  one = front (length x) a d e two_fit

  module _ {i : ℕ} {y : List ℕ} (p : Put x a d i y) where
    pub two : i + length e ≤ length y
    two = room p e two_fit

    module _ {j : ℕ} {z : List ℕ} (q : Put y i e j z) where
      pub three : j + length f ≤ length z
      three = room (both p e two_fit q) f h

      pub all_three : {r : ℕ} {u : List ℕ} → Put z j f r u → Put x a (d ++ e ++ f) r u
      all_three s = both (both p e two_fit q) f h s

-- four texts, one after the other
module _ (x : List ℕ) (a : ℕ) (d e f g : List ℕ) (h : a + length (d ++ e ++ f ++ g) ≤ length x) where
  pub three_fit : a + length (d ++ e ++ f) ≤ length x
  three_fit = front (length x) a (d ++ e ++ f) g h

  module _ {i : ℕ} {y : List ℕ} (p : Put x a d i y) {j : ℕ} {z : List ℕ} (q : Put y i e j z) {k : ℕ} {u : List ℕ} (s : Put z j f k u) where
    pub four : k + length g ≤ length u
    four = room (all_three x a d e f three_fit p q s) g h

    pub all_four : {r : ℕ} {v : List ℕ} → Put u k g r v → Put x a (d ++ e ++ f ++ g) r v
    all_four t = both (all_three x a d e f three_fit p q s) g h t

-- at the front of the output
pub written : {d x : List ℕ} {r : ℕ} {y : List ℕ} → length d ≤ length x → Put x 0 d r y → Written d x r y
written {d} {x} {r} {y} h p =
    let e : leb (length d) (length x) ≡ true = le-leb (length d) (length x) h in
    record { count = simp e (omega (arith, p.next)); bytes = simp e p.bytes }

-- no room
pub unwritten : (d x : List ℕ) → length x < length d → Written d x 0 x
unwritten d x h =
    let e = lt-leb (length d) (length x) h in
    record { count = simp e; bytes = simp e }
