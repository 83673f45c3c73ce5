-- The first field with a fault, in two lists of rules one after the other.
-- Assumes nothing.
use mathlib.Core.Path.{◌≡◌, refl}
use mathlib.Core.List.{List, [], ◌∷◌, ◌++◌}
use Rattle.std.specs.Prelude.{Result, Ok, Err, ⊤}
use Rattle.findings.specs.Findings.{Finding}
use Rattle.findings.specs.declared.Kind.{Kind}
use Rattle.findings.specs.declared.Answer.{Answer}
use Rattle.findings.specs.declared.Answer.TheVariants.{Accepted}
use Rattle.findings.specs.Naming.{named_else}
use Rattle.findings.specs.Codes.{Rule}
use Rattle.findings.specs.Naming.{first_named, named_by, named_or, naming, else_answer}

pub in_parts : (rs ss : List Rule) → named_or rs (first_named ss) ≡ first_named (rs ++ ss)
in_parts [] ss = refl
in_parts (r ∷ rs) ss = simp (in_parts rs ss)

-- a judging that ends at the first fault gives the answer that names it
by_fault : (f : Finding) (n : Kind → Answer) (x : Result ⊤ Answer) (a : Answer) → else_answer (named_by f n x) a ≡ named_else f n (else_answer x a)
by_fault (Ok u) n x a = refl
by_fault (Err k) n x a = refl

pub is_named_or : (rs : List Rule) (a : Answer) → else_answer (naming rs) a ≡ named_or rs a
is_named_or [] a = refl
is_named_or (r ∷ rs) a = rw (by_fault r.found r.named (naming rs) a, is_named_or rs a)

pub is_first_named : (rs : List Rule) → else_answer (naming rs) Accepted ≡ first_named rs
is_first_named [] = refl
is_first_named (r ∷ rs) = rw (by_fault r.found r.named (naming rs) Accepted, is_first_named rs)
