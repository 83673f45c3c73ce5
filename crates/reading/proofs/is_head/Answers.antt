-- `reading::is_head` meets its contract: each field in its place.
-- Assumes nothing.
use mathlib.Core.List.{List}
use mathlib.Core.Bool.{Bool, ◌&&◌}
use mathlib.Core.Path.{◌≡◌, ◌∙◌}
use Prim.Native.Nat.{ℕ}
use lib.ListN.{get_or}
use Rattle.frame.specs.Records.{ended}
use Rattle.frame.proofs.Starts.{starts}
use Rattle.digits.specs.Digits.{is_digits}
use Rattle.base.specs.Bytes.{ascii, field, same}
use Rattle.reading.specs.Reading.{head_right}
use Rattle.status.specs.Records.{is_address}
use Rattle.fields.specs.Fields.{is_duplicate}
use Rattle.reading.proofs.is_head.Goals as goal

all : (h : List ℕ) {m u p d e : Bool} → m ≡ same (field 1 8 h) (ascii "01STATUS") → u ≡ is_duplicate (get_or h 8 0) → p ≡ is_address (field 10 34 h)
    → d ≡ is_digits (field 35 54 h) → e ≡ ended 54 h → m && (u && (p && (d && e))) ≡ head_right h
unfolding head_right
all h p q r s t = rw (p, q, r, s, t)

pub returns : goal.returns
returns c =
    let m = c.starts_with.ensures.value ∙ starts c.args.h.now (ascii "01STATUS") in
    all c.args.h.now m c.is_duplicate.ensures c.is_plain.ensures c.is_digits.ensures c.has_ending.ensures
