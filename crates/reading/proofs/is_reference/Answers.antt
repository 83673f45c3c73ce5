-- `reading::is_reference` meets its contract: each field in its place; a place above 0 is of digits.
-- Assumes nothing.
use mathlib.Core.List.{List}
use mathlib.Core.Bool.{Bool, true, false, ◌&&◌, and-false}
use mathlib.Core.Path.{◌≡◌, refl, ◌∙◌}
use Prim.Native.Nat.{ℕ, ◌<◌}
use native.Mathlib.Omega.{arith}
use lib.Dec.{eqb}
use borrow.Author.Tests.{eqb-true}
use Rattle.fields.proofs.Numbers.{above_zero}
use Rattle.frame.specs.Records.{ended}
use Rattle.frame.proofs.Starts.{starts}
use Rattle.digits.specs.Digits.{is_digits, number_of}
use Rattle.base.specs.Bytes.{ascii, field, same}
use Rattle.reading.specs.Reading.{reference_right}
use Rattle.reading.proofs.is_reference.Goals as goal

-- a field that stands for k, above 0, is of digits
of_digits : (s : List ℕ) (k : ℕ) (q : Bool) → 0 < k → is_digits s && (eqb (number_of s) k && q) ≡ eqb (number_of s) k && q
of_digits s k q h = go (eqb (number_of s) k) refl
  where
    go : (t : Bool) → eqb (number_of s) k ≡ t → is_digits s && (t && q) ≡ t && q
    go false e = rw (and-false (is_digits s))
    go true e = rw (above_zero s (omega (arith, eqb-true (number_of s) k e)))

all : (k : ℕ) (r : List ℕ) → 0 < k → {m d e : Bool} {n : ℕ} → m ≡ same (field 1 2 r) (ascii "02") → n ≡ number_of (field 3 8 r)
    → d ≡ is_digits (field 9 10 r) → e ≡ ended 63 r → m && (eqb n k && (d && e)) ≡ reference_right k r
unfolding reference_right
all k r h p q s t = rw (p, q, s, t, of_digits (field 3 8 r) k (is_digits (field 9 10 r) && ended 63 r) h)

pub returns : goal.returns
returns c =
    all c.args.k c.args.r.now c.requires (c.starts_with.ensures.value ∙ starts c.args.r.now (ascii "02"))
    c.number.ensures c.is_digits.ensures c.has_ending.ensures
