-- The number that each call for C returns is that of the first row whose condition holds: 99 for a buffer of another size, and then the rows of
-- the call below it. `nsh_single` asks for no size; its refusals are those of `single`.
-- Assumes nothing.
use mathlib.Core.Path.{◌≡◌, ◌∙◌}
use mathlib.Core.Bool.{Bool, true, false, cond, not}
use mathlib.Core.List.{List, ◌∷◌}
use Prim.Native.Nat.{ℕ}
use Rattle.base.specs.Tables.{Row, first_given}
use Rattle.lent.specs.Lent.{Lists, Lent}
use Rattle.judge.specs.Refusals.{open_refusals, piece_refusals, close_refusals, whole_refusals}
use Rattle.judge.proofs.Refusals as judge
use Rattle.cover.specs.Refusals.{judge_refusals}
use Rattle.cover.proofs.Refusals as cover
use Rattle.status.specs.Refusals.{reply_refusals, fedsta_refusals}
use Rattle.status.proofs.Refusals as status
use Rattle.reading.specs.Refusals.{read_refusals}
use Rattle.reading.proofs.Refusals as reading
use Rattle.packed.specs.Packed.{packed_bytes, unpacked}
use Rattle.nshanvekh.specs.Session.{sized, wrong_size, OpenedAs, PieceAs, sized_all, ClosedAs}
use Rattle.nshanvekh.specs.Message.{sized_both, JudgedNumbers, particulars_of, RepliedAs, StatusAs}
use Rattle.nshanvekh.specs.Covers.{FedjelAs, is_yes, FedstaAs}

-- 99 where the sizes aren't right, and then the rows of the call below
abbrev pub sized_then : Bool → List Row → ℕ
sized_then right rs = first_given ((wrong_size, not right) ∷ rs)

sized_first : (b : Bool) (rs : List Row) {r n : ℕ} → r ≡ cond b n wrong_size → n ≡ first_given rs → r ≡ sized_then b rs
sized_first true rs e f = e ∙ f
sized_first false rs e f = e

-- opening: 99, 1, 4
pub opening : {e : ℕ} {t x : List ℕ} {r : ℕ} {x' : List ℕ} → OpenedAs e t x r x' → r ≡ sized_then (sized x packed_bytes) (open_refusals e t)
opening {e} {t} {x} w = sized_first (sized x packed_bytes) (open_refusals e t) w.answer (judge.opening e t)

-- a piece: 99, 5, 2, 3, 15, 4
pub piece : {x p : List ℕ} {l : Lists} {t : List ℕ} {r : ℕ} {x' t' : List ℕ} → PieceAs x p l t r x' t'
    → r ≡ sized_then (sized x packed_bytes) (piece_refusals (unpacked x) l t)
piece {x} {p} {l} {t} w = sized_first (sized x packed_bytes) (piece_refusals (unpacked x) l t) w.answer (judge.piece (unpacked x) p l t)

-- closing: 99, 5, 6
pub close : {x ns id : List ℕ} {r : ℕ} {x' ns' id' : List ℕ} → ClosedAs x ns id r x' ns' id'
    → r ≡ sized_then (sized_all x ns id) (close_refusals (unpacked x))
close {x} {ns} {id} w = sized_first (sized_all x ns id) (close_refusals (unpacked x)) w.answer (judge.close (unpacked x))

-- a whole message: 99, 1, 4, 2, 3, 15, 6
pub whole : {m : List ℕ} {l : Lent} {t ns id : List ℕ} {r : ℕ} {t' ns' id' : List ℕ} → JudgedNumbers m l t ns id r t' ns' id'
    → r ≡ sized_then (sized_both ns 7 id) (whole_refusals l t m)
whole {m} {l} {t} {ns} {id} w = sized_first (sized_both ns 7 id) (whole_refusals l t m) w.answer (judge.whole l t m)

-- a reply: 99, 1, 2, 3, 15, 6, 7, 8, 9
pub reply : {m : List ℕ} {l : Lent} {d n t : ℕ} {out ns : List ℕ} {r : ℕ} {out' ns' : List ℕ} → RepliedAs m l d n t out ns r out' ns'
    → r ≡ sized_then (sized ns 1) (reply_refusals l m (particulars_of d n t) out)
reply {m} {l} {d} {n} {t} {out} {ns} w =
    let p = particulars_of d n t in
    sized_first (sized ns 1) (reply_refusals l m p out) w.answer (status.replied l m p out)

-- reading a STATUS: 99, 10, 9
pub read_status : {x t ns id : List ℕ} {r : ℕ} {t' ns' id' : List ℕ} → StatusAs x t ns id r t' ns' id'
    → r ≡ sized_then (sized_both ns 10 id) (read_refusals x t)
read_status {x} {t} {ns} {id} w = sized_first (sized_both ns 10 id) (read_refusals x t) w.answer (reading.status x t)

-- judging a FEDJEL: 99, 1, 11, 12, 9
pub fedjel : {m : List ℕ} {e : ℕ} {l t ns : List ℕ} {r : ℕ} {t' ns' : List ℕ} → FedjelAs m e l t ns r t' ns'
    → r ≡ sized_then (sized ns 2) (judge_refusals e l m t)
fedjel {m} {e} {l} {t} {ns} w = sized_first (sized ns 2) (judge_refusals e l m t) w.answer (cover.judging e l m t)

-- writing a FEDSTA: 99, 1, 11, 12, 13, 8, 9
pub fedsta : {m : List ℕ} {e : ℕ} {l id : List ℕ} {cover d n t count : ℕ} {out : List ℕ} {r : ℕ} {out' : List ℕ}
    → FedstaAs m e l id cover d n t count out r out' → r ≡ sized_then (sized id 25) (fedsta_refusals e l m id (is_yes cover) (particulars_of d n t) count out)
fedsta {m} {e} {l} {id} {cover} {d} {n} {t} {count} {out} w =
    let p = particulars_of d n t in
    sized_first (sized id 25) (fedsta_refusals e l m id (is_yes cover) p count out) w.answer (status.fedsta e l m id (is_yes cover) p count out)
