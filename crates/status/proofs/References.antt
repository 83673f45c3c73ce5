-- References one after the other, and where the items that they refer to stand in the message.
-- Assumes nothing.
use mathlib.Core.Path.{◌≡◌, refl, sym, ap, ◌∙◌}
use mathlib.Core.Bool.{Bool, true, false, cond, not}
use mathlib.Core.List.{List, [], ◌∷◌, ◌++◌, append_assoc, append-nil}
use Prim.Native.Nat.{ℕ, zero, suc, ◌+◌, ◌*◌, ◌≤◌, ◌<◌}
use native.Mathlib.Nat.{add-zero}
use native.Mathlib.Omega.{arith}
use lib.ListN.{length, get_or, take, drop, length-drop}
use lib.Seq.{drop-drop}
use Rattle.base.proofs.Every.{both}
use Rattle.frame.specs.Records.{lengths, head_end, item_end, ended, is_foot, item_stands, head_stands, items_in, items_of}
use Rattle.frame.specs.Places.{place}
use Rattle.frame.proofs.Uncut.{ended_long}
use Rattle.frame.proofs.Places.{kth}
use Rattle.status.specs.Records.{reference, references}

pub none : (k : ℕ) (cs : List ℕ) → references k cs [] ≡ []
unfolding references
none k [] = refl
none k (c ∷ cs) = refl

-- one item more
pub references_snoc : (k : ℕ) (cs : List ℕ) (rs : List (List ℕ)) (i : ℕ) → i < length cs → i < length rs
    → references k cs (take (suc i) rs) ≡ references k cs (take i rs) ++ reference (k + i) (get_or cs i 0) (get_or rs i [])
unfolding references
references_snoc k [] rs i h j = absurd (omega arith)
references_snoc k (c ∷ cs) [] i h j = absurd (omega arith)
references_snoc k (c ∷ cs) (r ∷ rs) zero h j =
    ap (λ (l : List ℕ). reference k c r ++ l) (none (k + 1) cs) ∙ append-nil (reference k c r) ∙ ap (λ (n : ℕ). reference n c r) (sym (add-zero k))
references_snoc k (c ∷ cs) (r ∷ rs) (suc i) h j =
    let e : k + 1 + i ≡ k + suc i = omega arith in
    let p = references (k + 1) cs (take i rs) in
    ap (λ (l : List ℕ). reference k c r ++ l) (references_snoc (k + 1) cs rs i (omega arith) (omega arith))
    ∙ sym (append_assoc (reference k c r) p (reference (k + 1 + i) (get_or cs i 0) (get_or rs i [])))
    ∙ ap (λ (n : ℕ). reference k c r ++ p ++ reference n (get_or cs i 0) (get_or rs i [])) e

-- an item of a message: where it stands, and its bytes
pub record Placed (m : List ℕ) (k : ℕ) : Type 0 where
  pub long : place k + item_end ≤ length m
  pub bytes : get_or (items_of lengths m) k [] ≡ take lengths.item (drop (place k) m)

pub placed : (m : List ℕ) (k : ℕ) → k < length (items_of lengths m) → Placed m k
placed m k h = go (head_stands lengths m) refl h
  where
    items : List (List ℕ)
    items = items_in lengths (length m) (drop head_end m)

    go : (b : Bool) → head_stands lengths m ≡ b → k < length (cond b items []) → Placed m k
    go false e h = absurd (omega arith)
    go true e h =
        let p = place k in
        let q = kth lengths (length m) (drop head_end m) k h in
        let d : drop (k * item_end) (drop head_end m) ≡ drop p m = drop-drop (k * item_end) head_end m in
        let s : item_stands lengths (drop p m) ≡ true = sym (ap (item_stands lengths) d) ∙ q.stands in
        let l = ended_long lengths.item (drop p m) (both (not (is_foot (drop p m))) (ended lengths.item (drop p m)) s).1 in
        record {
          long = omega (arith, length-drop p m);
          bytes = ap (λ (b : Bool). get_or (cond b items []) k []) e ∙ q.bytes ∙ ap (take lengths.item) d;
        }
