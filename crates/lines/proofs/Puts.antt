-- A text, a number and what comes after them, put one after the other.
-- Assumes nothing.
use mathlib.Core.List.{List, ◌++◌}
use Prim.Native.Nat.{ℕ, ◌+◌, ◌^◌, ◌≤◌, ◌<◌}
use native.Mathlib.Omega.{arith}
use lib.ListN.{length}
use Rattle.base.specs.Put.{Put}
use Rattle.base.proofs.Put.{one, two, three, all_three}
use Rattle.text.proofs.At as text
use Rattle.digits.specs.Digits.{figures}
use Rattle.digits.proofs.At as digits
use Rattle.digits.proofs.Figures.{figures_length}

module _ (x : List ℕ) (a : ℕ) (word : List ℕ) (w n : ℕ) (k : n < 10 ^ w) (e : List ℕ) (h : a + length (word ++ figures w n ++ e) ≤ length x) where
  module _ {i : ℕ} {y : List ℕ} (p : text.PutAt x a word i y) {j : ℕ} {z : List ℕ} (q : digits.PutAt y i w n j z) where
    word_put : Put x a word i y
    word_put = text.puts x a word (one x a word (figures w n) e h) p

    number_put : Put y i (figures w n) j z
    number_put = digits.puts y i w n (omega (arith, figures_length w n, two x a word (figures w n) e h word_put)) k q

    -- there is room for the rest
    pub rest : j + length e ≤ length z
    rest = three x a word (figures w n) e h word_put number_put

    pub all : {r : ℕ} {u : List ℕ} → Put z j e r u → Put x a (word ++ figures w n ++ e) r u
    all s = all_three x a word (figures w n) e h word_put number_put s
