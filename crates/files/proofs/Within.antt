-- What the callers of `files::read` lean on: the number of banks lies within the list.
-- Assumes nothing.
use mathlib.Core.Path.{◌≡◌, sym, ap, ◌∙◌}
use mathlib.Core.List.{List}
use Prim.Native.Nat.{ℕ, ◌/◌}
use native.Mathlib.Omega.{arith}
use lib.ListN.{length}
use Rattle.std.proofs.Common.{Result, Ok}
use Rattle.base.specs.Bytes.{over}
use Rattle.base.proofs.Over.{length_over}
use Rattle.base.proofs.Written.{Front, front}
use Rattle.lent.specs.declared.Refusal.{Refusal}
use Rattle.files.specs.declared.Given.{Given}
use Rattle.files.specs.Files.{day_of, numbers, is_banks, is_known_file, given_by, ReadAs}
use Rattle.files.proofs.Lines.{count}
use Rattle.files.proofs.Says.{passed, banks_fit}

-- the banks
pub banks : {day file known list : List ℕ} {r : Result Given Refusal} {list' : List ℕ} → ReadAs day file known list r list'
    → {g : Given} → r ≡ Ok g → Front g.banks list'
unfolding given_by
banks {day} {file} {known} {list} {r} {list'} w {g} q =
    let p = passed (day_of day) (is_banks file (length list)) (is_known_file known) (length file / 9) g (sym w.result ∙ q) in
    let h = banks_fit file (length list) p.1 in
    let c = count (length file / 9) file in
    let n = p.3 in
    let f : list' ≡ over list 0 (numbers file) = rw q at w.bytes in
    front g.banks list' (omega (arith, ap length f, length_over list 0 (numbers file) (omega arith)))
