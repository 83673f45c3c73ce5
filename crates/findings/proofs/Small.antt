-- Codes of at most two digits: the first Ü code and the first T code of rules whose codes are below 100.
-- Assumes nothing.
use mathlib.Core.Path.{◌≡◌}
use mathlib.Core.Bool.{true}
use mathlib.Core.List.{List, [], ◌∷◌}
use Prim.Native.Nat.{◌<◌}
use lib.Dec.{lit<}
use borrow.Author.Tests.{ltb-true}
use Rattle.base.proofs.Every.{both}
use Rattle.findings.specs.declared.Kind.{Kind}
use Rattle.findings.specs.Findings.{Finding}
use Rattle.std.specs.Prelude.{Ok, Err}
use Rattle.findings.specs.Codes.{Code, Ü, T, Rule, whole, whole_code, first_whole, alone, item_code, first_alone}
use Rattle.findings.specs.Faults.{is_short, kinds, passes_each, codes_pass}
use Rattle.findings.proofs.Row.{earlier_lt}
use Rattle.findings.proofs.Faults.{for_each}

whole_short : (x : Code) → is_short x ≡ true → whole x < 100
whole_short (Ü n) h = ltb-true n 100 h
whole_short (T n) h = lit< tt

alone_short : (x : Code) → is_short x ≡ true → alone x < 100
alone_short (Ü n) h = lit< tt
alone_short (T n) h = ltb-true n 100 h

-- one rule
module _ (c : Kind → Code) (h : (k : Kind) → is_short (c k) ≡ true) where
  whole_lt : (f : Finding) → whole_code c f < 100
  whole_lt (Ok u) = lit< tt
  whole_lt (Err k) = whole_short (c k) (h k)

  alone_lt : (f : Finding) → item_code c f < 100
  alone_lt (Ok u) = lit< tt
  alone_lt (Err k) = alone_short (c k) (h k)

pub first_whole_lt : (rs : List Rule) → codes_pass is_short rs ≡ true → first_whole rs < 100
first_whole_lt [] h = lit< tt
first_whole_lt (r ∷ rs) h =
    let b = both (passes_each is_short r.code kinds) (codes_pass is_short rs) h in
    earlier_lt (whole_code r.code r.found) (first_whole rs) (whole_lt r.code (for_each is_short r.code b.0) r.found)
    (first_whole_lt rs b.1)

pub first_alone_lt : (rs : List Rule) → codes_pass is_short rs ≡ true → first_alone rs < 100
first_alone_lt [] h = lit< tt
first_alone_lt (r ∷ rs) h =
    let b = both (passes_each is_short r.code kinds) (codes_pass is_short rs) h in
    earlier_lt (item_code r.code r.found) (first_alone rs) (alone_lt r.code (for_each is_short r.code b.0) r.found)
    (first_alone_lt rs b.1)
