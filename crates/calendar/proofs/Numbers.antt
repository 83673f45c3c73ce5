-- Laws of numbers: a rule below a bound by one test that antt computes, which of two is the smaller, how far apart they are, and what never falls.
-- Assumes nothing.
use mathlib.Core.Path.{◌≡◌, refl, sym, subst, ◌∙◌}
use mathlib.Core.Bool.{Bool, true, false, ◌&&◌}
use mathlib.Core.List.{List}
use mathlib.Core.Logic.{◌⊎◌, inl, inr, ⊎_elim}
use Prim.Native.Nat.{ℕ, zero, suc, ◌+◌, ◌-◌, ◌<◌, ◌≤◌}
use native.Mathlib.Nat.{not-suc-le-zero, le_of_suc-le-suc, eq-or-lt_of_le, le_refl, le_trans}
use native.Mathlib.Decide.{le_ind}
use native.Mathlib.Omega.{arith}
use lib.Dec.{leb, ltb}
use borrow.Author.Tests.{ltb-true, ltb-false, le-leb, lt-leb}
use lib.ListN.{length}
use Rattle.base.proofs.Every.{both}
use Rattle.digits.specs.Digits.{number_of}
use Rattle.digits.proofs.Value.{number_lt}

-- the test passes at each number below n
abbrev pub all : (ℕ → Bool) → ℕ → Bool
all f zero = true
all f (suc n) = f n && all f n

pub under : (f : ℕ → Bool) (n : ℕ) → all f n ≡ true → (k : ℕ) → k < n → f k ≡ true
under f zero t k h = absurd (not-suc-le-zero h)
under f (suc n) t k h =
    let t = both (f n) (all f n) t in
    ⊎_elim (λ (e : k ≡ n). subst (λ (i : ℕ). f i ≡ true) (sym e) t.0) (under f n t.1 k) (eq-or-lt_of_le (le_of_suc-le-suc h))

less : (a b : ℕ) (t : Bool) → ltb a b ≡ t → (a < b) ⊎ (b ≤ a)
less a b true e = inl (ltb-true a b e)
less a b false e = inr (ltb-false a b e)

pub lt_or_le : (a b : ℕ) → (a < b) ⊎ (b ≤ a)
lt_or_le a b = less a b (ltb a b) refl

-- the difference is tested as the sum is
pub at_most : (a b k : ℕ) → a ≤ b → leb (b - a) k ≡ leb b (a + k)
at_most a b k h =
    ⊎_elim
    (λ (l : k < b - a). lt-leb (b - a) k l ∙ sym (lt-leb b (a + k) (omega arith)))
    (λ (l : b - a ≤ k). le-leb (b - a) k l ∙ sym (le-leb b (a + k) (omega arith)))
    (lt_or_le k (b - a))

-- what never falls from a number to the next never falls
pub rising : (f : ℕ → ℕ) → ((k : ℕ) → f k ≤ f (suc k)) → (a b : ℕ) → a ≤ b → f a ≤ f b
rising f s a b h = le_ind (λ (m : ℕ). f a ≤ f m) (le_refl (f a)) (λ m k i. le_trans i (s m)) b h

-- the number of a field of eight digits
pub eight : (s : List ℕ) → length s ≡ 8 → number_of s < 100000000
eight s h = rw h at (number_lt s)
