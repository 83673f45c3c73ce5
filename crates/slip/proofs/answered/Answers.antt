-- `slip::answered` meets its contract: a file is refused, or the message is judged by what the files say.
-- Assumes nothing.
use mathlib.Core.Path.{◌≡◌}
use Prim.Native.Nat.{ℕ}
use lib.ListN.{length, replicate, length-replicate}
use Rattle.files.proofs.Within.{banks}
use Rattle.slips.specs.Message.{bank_places}
use Rattle.slips.proofs.Told.{not_read, by_files, counts}
use borrow.Author.Rules.{rules}
use Rattle.slip.proofs.answered.Goals as goal

-- the list that is lent
places : length {A = ℕ} (replicate bank_places 0) ≡ bank_places
places = length-replicate {A = ℕ} bank_places 0

pub slice_bounds-list-end : goal.slice_bounds-list-end
slice_bounds-list-end g c = (banks c.read.ensures c.in-Ok.is).low

pub slice_bounds-judged-end : goal.slice_bounds-judged-end
slice_bounds-judged-end g c = (banks c.read.ensures c.in-Ok.is).long

pub returns-in-Err : goal.returns-in-Err
returns-in-Err g c =
    let f = c.read.ensures in
    let t = not_read f places c.in-Err.r c.in-Err.is c.put_refusal.ensures (search rules) in
    let n = counts t in
    record { prefix_len = (n.low, n.long); text_for = t }

pub returns-in-Ok : goal.returns-in-Ok
returns-in-Ok g c =
    let f = c.read.ensures in
    let t = by_files f places c.in-Ok.given c.in-Ok.is c.judged.ensures in
    let n = counts t in
    record { prefix_len = (n.low, n.long); text_for = t }
