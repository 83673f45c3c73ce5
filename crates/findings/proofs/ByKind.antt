-- Codes by the kind of a fault: one for what isn't digits, another for the rest.
-- Assumes nothing.
use mathlib.Core.Path.{◌≡◌, refl}
use Prim.Native.Nat.{ℕ, ◌<◌}
use native.Mathlib.Omega.{arith}
use Rattle.findings.specs.declared.Kind.{Kind}
use Rattle.findings.specs.declared.Kind.TheVariants.{Letter, Mark, Form, NotDigits, CheckDigit, NoDate}
use Rattle.findings.specs.declared.Kind.TheVariants.{OutsideDays, NotListed, Known, BlankOrZero, OutOfOrder, Other}
use Rattle.findings.specs.declared.Kind.TheVariants.{FormOfFirstEight, FormOfLastEight, CheckDigitOverEight, CheckDigitOverSixteen}
use Rattle.findings.specs.Findings.{Finding}
use Rattle.std.specs.Prelude.{Ok, Err}
use Rattle.findings.specs.Codes.{Code, Ü, T, always, digits_else, whole, alone, whole_code, item_code, either_code}

-- what is said of both codes is said of the one that the kind has
of_both : (P : ℕ → Type 0) (c d : ℕ) → P c → P d → (k : Kind) → P (digits_else c d k)
of_both P c d p q Letter = q
of_both P c d p q Mark = q
of_both P c d p q Form = q
of_both P c d p q FormOfFirstEight = q
of_both P c d p q FormOfLastEight = q
of_both P c d p q NotDigits = p
of_both P c d p q CheckDigit = q
of_both P c d p q CheckDigitOverEight = q
of_both P c d p q CheckDigitOverSixteen = q
of_both P c d p q NoDate = q
of_both P c d p q OutsideDays = q
of_both P c d p q NotListed = q
of_both P c d p q Known = q
of_both P c d p q BlankOrZero = q
of_both P c d p q OutOfOrder = q
of_both P c d p q Other = q

-- the number of a code, by the kind
by_kind : (h : Code → ℕ) (x y : Code) (k : Kind) → h (digits_else x y k) ≡ digits_else (h x) (h y) k
by_kind h x y Letter = refl
by_kind h x y Mark = refl
by_kind h x y Form = refl
by_kind h x y FormOfFirstEight = refl
by_kind h x y FormOfLastEight = refl
by_kind h x y NotDigits = refl
by_kind h x y CheckDigit = refl
by_kind h x y CheckDigitOverEight = refl
by_kind h x y CheckDigitOverSixteen = refl
by_kind h x y NoDate = refl
by_kind h x y OutsideDays = refl
by_kind h x y NotListed = refl
by_kind h x y Known = refl
by_kind h x y BlankOrZero = refl
by_kind h x y OutOfOrder = refl
by_kind h x y Other = refl

pub whole_else : (x y : Code) (f : Finding) → whole_code (digits_else x y) f ≡ either_code (whole x) (whole y) f
whole_else x y (Ok u) = refl
whole_else x y (Err k) = by_kind whole x y k

pub alone_else : (x y : Code) (f : Finding) → item_code (digits_else x y) f ≡ either_code (alone x) (alone y) f
alone_else x y (Ok u) = refl
alone_else x y (Err k) = by_kind alone x y k

-- one code for each kind: a T code counts for an item as an Ü code does for the message
pub alone_always : (n : ℕ) (f : Finding) → item_code (always (T n)) f ≡ whole_code (always (Ü n)) f
alone_always n (Ok u) = refl
alone_always n (Err k) = refl

-- and the other way it is none
pub no_whole : (n : ℕ) (f : Finding) → whole_code (always (T n)) f ≡ 0
no_whole n (Ok u) = refl
no_whole n (Err k) = refl

pub no_alone : (n : ℕ) (f : Finding) → item_code (always (Ü n)) f ≡ 0
no_alone n (Ok u) = refl
no_alone n (Err k) = refl

pub no_code : (f : Finding) → either_code 0 0 f ≡ 0
no_code (Ok u) = refl
no_code (Err k) = of_both (λ (n : ℕ). n ≡ 0) 0 0 refl refl k

-- a finding's code is below what its codes are below
pub either_lt : {n : ℕ} (c d : ℕ) → c < n → d < n → (f : Finding) → either_code c d f < n
either_lt c d p q (Ok u) = omega arith
either_lt {n} c d p q (Err k) = of_both (λ (m : ℕ). m < n) c d p q k

pub always_lt : {n : ℕ} (c : ℕ) → c < n → (f : Finding) → whole_code (always (Ü c)) f < n
always_lt c p (Ok u) = omega arith
always_lt c p (Err k) = p
