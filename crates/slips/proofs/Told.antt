-- What the slip program tells: the text for the pieces that it was given stands at the front of its output.
-- Assumes nothing.
use mathlib.Core.Path.{◌≡◌, refl, sym, ap, ◌∙◌}
use mathlib.Core.List.{List, [], ◌++◌}
use Prim.Native.Nat.{ℕ, ◌+◌, ◌/◌, ◌≤◌}
use native.Mathlib.Omega.{arith}
use lib.ListN.{length, take, drop, length-append}
use borrow.Author.Tests.{le-leb}
use Rattle.std.proofs.Common.{Result, Ok, Err}
use Rattle.base.specs.Bytes.{over}
use Rattle.base.specs.Put.{Written, Put}
use Rattle.base.proofs.Written.{Front, front}
use Rattle.lent.specs.Lent.{Lists, listed}
use Rattle.lent.specs.declared.Refusal.{Refusal}
use Rattle.frame.specs.Machine.{joined}
use Rattle.judge.specs.declared.Taken.{Taken}
use Rattle.judge.specs.Session.{opened}
use Rattle.files.specs.declared.Given.{Given}
use Rattle.files.specs.Files.{day_of, numbers, is_banks, is_known_file, given_by, ReadAs}
use Rattle.files.proofs.Says.{passed, banks_front}
use Rattle.lines.specs.Slip.{refusal_line}
use Rattle.slips.specs.Message.{answer_of, FedBy, answer_by, printed, printed_by, bank_places, zeros, slip_by, TextFor}
use Rattle.slips.proofs.Short.{most_text, short, refusal_short}
use Rattle.slips.proofs.Whole.{any_pieces}

-- a text that fits stands at the front
stands : {d x : List ℕ} {r : ℕ} {y : List ℕ} → Written d x r y → length d ≤ length x → Put x 0 d r y
stands {d} {x} w h =
    let e = le-leb (length d) (length x) h in
    record { next = omega (arith, rw e at w.count); bytes = rw e at w.bytes }

-- the answer of the session that the pieces led to
pub answers : (e : ℕ) {l : Lists} {table : List ℕ} {start t : Taken} {table' x : List ℕ} {r : ℕ} {y : List ℕ}
    → start ≡ opened e table → FedBy start l table t table' → Written (answer_of t) x r y → most_text ≤ length x → TextFor (answer_by e table l) x r y
answers e {l} {table} {start} {t} {table'} {x} o f w h =
    record {
      pieces = f.pieces;
      octets = f.octets;
      put = rw (f.result, o) at (stands w (omega (arith, short t)));
    }

-- the files as they were read, into a list that has a place for each bank
module _ {day banks known list : List ℕ} {g : Result Given Refusal} {list' : List ℕ} (w : ReadAs day banks known list g list')
    (h : length list ≡ bank_places) where
  says : given_by day banks known bank_places ≡ g
  says = sym (rw h at w.result)

  -- they are refused
  pub not_read : (q : Refusal) → g ≡ Err q → {x : List ℕ} {r : ℕ} {y : List ℕ}
      → Written (refusal_line q) x r y → most_text ≤ length x → TextFor (slip_by day banks known) x r y
  unfolding printed joined
  not_read q e p k = record { pieces = []; octets = refl; put = rw (says, e) (stands p (omega (arith, refusal_short q))) }

  module _ (f : Given) (q : g ≡ Ok f) where
    how_many : f.banks ≡ length banks / 9
    unfolding given_by
    how_many = sym (passed (day_of day) (is_banks banks bank_places) (is_known_file known) (length banks / 9) f (says ∙ q)).3

    the_banks : take f.banks list' ≡ numbers banks
    the_banks = rw (how_many, w.bytes, q) (banks_front banks list)

    -- and the message by what they say
    pub by_files : {x : List ℕ} {r : ℕ} {y : List ℕ}
        → TextFor (answer_by f.day zeros (listed (take f.banks list') known [])) x r y → TextFor (slip_by day banks known) x r y
    unfolding printed_by
    by_files t =
        record {
          pieces = t.pieces;
          octets = t.octets;
          put = rw (← any_pieces day banks known bank_places zeros t.pieces, says, q, ← the_banks) t.put;
        }

-- what is told counts bytes of the output
pub counts : {text : List (List ℕ) → List ℕ} {x : List ℕ} {r : ℕ} {y : List ℕ} → TextFor text x r y → Front r y
unfolding over
counts {text} {x} {r} {y} t =
    let d = text t.pieces in
    let l : length (d ++ drop (0 + length d) x) ≡ length d + length (drop (0 + length d) x) = length-append d (drop (0 + length d) x) in
    front r y (omega (arith, ap length t.put.bytes, t.put.next))
