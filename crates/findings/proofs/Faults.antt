-- The first Ü code of rules that give no code 0 is 0 exactly when no field has a fault of the whole message.
-- Assumes nothing.
use mathlib.Core.Path.{◌≡◌, refl, sym, ◌∙◌}
use mathlib.Core.Bool.{Bool, true, false, false≢true}
use mathlib.Core.List.{List, [], ◌∷◌}
use Prim.Native.Nat.{ℕ, zero, suc, ◌<◌}
use native.Mathlib.Omega.{arith}
use lib.ListN.{length, get_or}
use lib.Dec.{lit<}
use borrow.Author.Tests.{ltb-true}
use Rattle.base.specs.Each.{Each}
use Rattle.base.proofs.Every.{both}
use Rattle.findings.specs.declared.Kind.{Kind}
use Rattle.findings.specs.declared.Kind.TheVariants.{Letter, Mark, Form, NotDigits, CheckDigit, NoDate}
use Rattle.findings.specs.declared.Kind.TheVariants.{OutsideDays, NotListed, Known, BlankOrZero, OutOfOrder, Other}
use Rattle.findings.specs.declared.Kind.TheVariants.{FormOfFirstEight, FormOfLastEight, CheckDigitOverEight, CheckDigitOverSixteen}
use Rattle.findings.specs.Findings.{Finding, Right}
use Rattle.std.specs.Prelude.{Ok, Err}
use Rattle.findings.specs.Codes.{Code, Ü, T, Rule, whole, whole_code, first_whole}
use Rattle.findings.specs.Faults.{is_whole, is_code, kinds, passes_each, codes_pass}
use Rattle.findings.proofs.Row.{neither}

-- what is found in a field is a fault of the whole message
abbrev pub spoils : (Kind → Code) → Finding → Bool
spoils c (Ok u) = false
spoils c (Err k) = is_whole (c k)

-- nothing is found in any field
abbrev pub AllRight : List Rule → Type 0
AllRight = Each (λ r. r.found ≡ Right)

-- no field has a fault of the whole message, whatever faults of an item alone there are
abbrev pub NoneSpoils : List Rule → Type 0
NoneSpoils = Each (λ r. spoils r.code r.found ≡ false)

-- a test that is passed for each of the kinds is passed for any, by its place in the list
module _ (p : Code → Bool) (c : Kind → Code) where
  at_place : (ks : List Kind) (i : ℕ) → i < length ks → passes_each p c ks ≡ true → p (c (get_or ks i Other)) ≡ true
  at_place [] i h e = absurd (omega arith)
  at_place (k ∷ ks) zero h e = (both (p (c k)) _ e).0
  at_place (k ∷ ks) (suc i) h e = at_place ks i (omega arith) (both (p (c k)) _ e).1

  pub for_each : passes_each p c kinds ≡ true → (k : Kind) → p (c k) ≡ true
  for_each e Letter = at_place kinds 0 (lit< tt) e
  for_each e Mark = at_place kinds 1 (lit< tt) e
  for_each e Form = at_place kinds 2 (lit< tt) e
  for_each e FormOfFirstEight = at_place kinds 3 (lit< tt) e
  for_each e FormOfLastEight = at_place kinds 4 (lit< tt) e
  for_each e NotDigits = at_place kinds 5 (lit< tt) e
  for_each e CheckDigit = at_place kinds 6 (lit< tt) e
  for_each e CheckDigitOverEight = at_place kinds 7 (lit< tt) e
  for_each e CheckDigitOverSixteen = at_place kinds 8 (lit< tt) e
  for_each e NoDate = at_place kinds 9 (lit< tt) e
  for_each e OutsideDays = at_place kinds 10 (lit< tt) e
  for_each e NotListed = at_place kinds 11 (lit< tt) e
  for_each e Known = at_place kinds 12 (lit< tt) e
  for_each e BlankOrZero = at_place kinds 13 (lit< tt) e
  for_each e OutOfOrder = at_place kinds 14 (lit< tt) e
  for_each e Other = at_place kinds 15 (lit< tt) e

-- a code that isn't 0 is 0 for the whole message only where it is an item's alone
not_whole : (x : Code) → is_code x ≡ true → whole x ≡ 0 → is_whole x ≡ false
not_whole (Ü n) h e = absurd (omega (arith, ltb-true 0 n h))
not_whole (T n) h e = refl

none_whole : (x : Code) → is_whole x ≡ false → whole x ≡ 0
none_whole (Ü n) e = absurd (false≢true (sym e))
none_whole (T n) e = refl

spared : (c : Kind → Code) (f : Finding) → ((k : Kind) → is_code (c k) ≡ true) → whole_code c f ≡ 0 → spoils c f ≡ false
spared c (Ok u) h e = refl
spared c (Err k) h e = not_whole (c k) (h k) e

uncoded : (c : Kind → Code) (f : Finding) → spoils c f ≡ false → whole_code c f ≡ 0
uncoded c (Ok u) e = refl
uncoded c (Err k) e = none_whole (c k) e

pub none_spoils : (rs : List Rule) → codes_pass is_code rs ≡ true → first_whole rs ≡ 0 → NoneSpoils rs
none_spoils [] h e = tt
none_spoils (r ∷ rs) h e =
    let b = both (passes_each is_code r.code kinds) (codes_pass is_code rs) h in
    let n = neither (whole_code r.code r.found) (first_whole rs) e in
    (spared r.code r.found (for_each is_code r.code b.0) n.0, none_spoils rs b.1 n.1)

pub no_code : (rs : List Rule) → NoneSpoils rs → first_whole rs ≡ 0
no_code [] s = refl
no_code (r ∷ rs) s = rw (uncoded r.code r.found s.0) (no_code rs s.1)

-- where each code is one of the whole message, each finding is a fault of it
right : (c : Kind → Code) (f : Finding) → ((k : Kind) → is_whole (c k) ≡ true) → spoils c f ≡ false → f ≡ Right
right c (Ok u) h e = refl
right c (Err k) h e = absurd (false≢true (sym e ∙ h k))

pub all_right : (rs : List Rule) → codes_pass is_whole rs ≡ true → NoneSpoils rs → AllRight rs
all_right [] h s = tt
all_right (r ∷ rs) h s =
    let b = both (passes_each is_whole r.code kinds) (codes_pass is_whole rs) h in
    (right r.code r.found (for_each is_whole r.code b.0) s.0, all_right rs b.1 s.1)

pub right_spares : (rs : List Rule) → AllRight rs → NoneSpoils rs
right_spares [] s = tt
right_spares (r ∷ rs) s = (rw s.0, right_spares rs s.1)
