-- `nshanvekh::nsh_piece` meets its contract: a wrong size, else the outcome of the piece that the bytes take.
-- Assumes nothing.
use Rattle.nshanvekh.proofs.Sessions.{piece_wrong, piece_right}
use Rattle.nshanvekh.proofs.nsh_piece.Goals as goal

pub returns-then-session-ne-BYTES : goal.returns-then-session-ne-BYTES
returns-then-session-ne-BYTES c = piece_wrong c.if-session-ne-BYTES.true

pub returns : goal.returns
returns c = piece_right c.if-session-ne-BYTES.false c.take.ensures c.number_of.ensures
