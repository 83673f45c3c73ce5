-- Once the head was read, no piece changes the identifier.
-- Assumes nothing.
use mathlib.Core.Path.{◌≡◌, refl, ap, ◌∙◌}
use mathlib.Core.List.{List}
use Prim.Native.Nat.{ℕ, ◌≤◌}
use native.Mathlib.Omega.{arith}
use lib.ListN.{length}
use Rattle.lent.specs.Lent.{Outcome, Lists, by}
use Rattle.std.proofs.Common.{Ok, Err}
use Rattle.frame.proofs.Kept.{id_kept}
use Rattle.kinds.specs.Codes.{rules}
use Rattle.judge.specs.declared.Session.{Session}
use Rattle.judge.specs.Session.{state_of, session_of, give, piece_refused, lent_to, after, taken}

-- where nothing is refused the next session is given
moves : (s n : Session) (o : Outcome) → (by o (give (Ok tt) n) (λ r. give (Err r) s)).outcome ≡ Ok tt → (by o (give (Ok tt) n) (λ r. give (Err r) s)).next ≡ n
moves s n (Ok tt) e = refl
moves s n (Err r) e = let z : ◌≡◌ {A = ℕ} 1 0 = cc in absurd (omega arith)

pub id_stays : (s : Session) (p : List ℕ) (l : Lists) (t : List ℕ) → (taken s p l t).outcome ≡ Ok tt → 1 ≤ s.tally.phase
    → (taken s p l t).next.tally.id ≡ s.tally.id
unfolding taken
id_stays s p l t e q =
    let d = moves s (session_of s.day s.room (after s p l t)) (piece_refused s l (length t)) e in
    ap (λ (n : Session). n.tally.id) d ∙ id_kept (rules (lent_to s l)) (state_of s t) p q
