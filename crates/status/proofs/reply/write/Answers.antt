-- `status::reply::write` meets its contract: the refusals of judging, then those of the reply; else the reply over the front.
-- Assumes nothing.
use mathlib.Core.Path.{◌≡◌, sym, ap, ap₂, ◌∙◌}
use mathlib.Core.Bool.{true, false}
use mathlib.Core.List.{List}
use Prim.Native.Nat.{ℕ, ◌+◌, ◌*◌, ◌≤◌, ◌<◌}
use native.Mathlib.Omega.{arith}
use lib.ListN.{length, take, replicate, length-replicate}
use borrow.Author.Tests.{le-leb, lt-leb}
use Rattle.base.specs.Bytes.{over}
use Rattle.frame.specs.Records.{lengths, id_of, items_of}
use Rattle.frame.specs.Verdict.{table_after}
use Rattle.kinds.specs.Codes.{rules}
use Rattle.std.proofs.Common.{rules as common}
use Rattle.std.specs.Prelude.{Result, Ok, Err}
use Rattle.lent.specs.Lent.{Lent, lent_in}
use Rattle.lent.specs.declared.Refusal.{Refusal}
use Rattle.lent.specs.declared.Refusal.TheVariants as refusal
use Rattle.frame.specs.declared.Closing.{Closing}
use Rattle.judge.specs.Session.{most, JudgedAs}
use Rattle.frame.specs.declared.Status.{Status}
use Rattle.status.specs.declared.reply.Particulars.{Particulars}
use Rattle.status.specs.Records.{written}
use Rattle.status.specs.Writing.{Writable, Referable}
use Rattle.status.specs.Reply.{has_address, are_particulars, saying, room, verdict_of, said, reply, answer as answer_of, output, Replied}
use Rattle.status.proofs.Bounds.{fits, room_length, writable, said_referable}
use Rattle.status.proofs.Referred.{address_length, address_id, reply_table, reply_length}
use Rattle.status.proofs.Judging.{Passed, agrees, closing_is, table_is}
use Rattle.status.proofs.reply.write.Goals.{Start}
use Rattle.status.proofs.reply.write.Goals as goal

module _ (l : Lent) (m : List ℕ) (p : Particulars) (out : List ℕ) where
  abbrev Right : Result ℕ Refusal → List ℕ → Type 0
  Right = Replied l m p out

  -- a refusal alters nothing
  refused : (r : Refusal) → answer_of l m p out ≡ Err r → Right (Err r) out
  unfolding output
  refused r h = record { result = sym h; bytes = rw h }

  accepted : (n : ℕ) (out' : List ℕ) → answer_of l m p out ≡ Ok n → out' ≡ over out 0 (reply l m p) → Right (Ok n) out'
  unfolding output
  accepted n out' h k = record { result = sym h; bytes = rw h k }

  module _ (g : Passed l m) where
    no_address : has_address m ≡ false → answer_of l m p out ≡ Err refusal.Address
    unfolding answer_of
    no_address a = rw (g.day, g.lists, g.few, a)

    module _ (a : has_address m ≡ true) where
      no_particulars : are_particulars p ≡ false → answer_of l m p out ≡ Err refusal.Particulars
      unfolding answer_of
      no_particulars b = rw (g.day, g.lists, g.few, a, b)

      module _ (b : are_particulars p ≡ true) where
        abbrev long : ℕ
        long = 104 + (said l m p).references * 65

        is_long : length (reply l m p) ≡ long
        is_long = reply_length l m p g.few (address_length m a) ∙ omega arith

        no_room : length out < long → answer_of l m p out ≡ Err refusal.Room
        unfolding answer_of
        no_room h = rw (g.day, g.lists, g.few, a, b, lt-leb (length (reply l m p)) (length out) (omega (arith, is_long)))

        has_room : long ≤ length out → answer_of l m p out ≡ Ok long
        unfolding answer_of
        has_room h =
            let l = le-leb (length (reply l m p)) (length out) (omega (arith, is_long)) in
            rw (g.day, g.lists, g.few, a, b, l) (ap Ok is_long)

  -- the codes stand in a table of zeros
  module _ {j : Result Closing Refusal} {t : List ℕ} (z : JudgedAs l (replicate most 0) m j t) where
    z' : JudgedAs l room m j t
    unfolding room
    z' = z

    refuses : (r : Refusal) → j ≡ Err r → Right (Err r) out
    refuses r h = refused r ((agrees l m).refuses r (sym z'.result ∙ h) p out)

    module _ {k : Closing} (d : j ≡ Ok k) where
      g : Passed l m
      g = (agrees l m).passes k (sym z'.result ∙ d)

      closing : k ≡ (verdict_of l m).closing
      closing = closing_is l m g (sym z'.result ∙ d)

      table : t ≡ table_after (rules l) room m
      table = z'.bytes ∙ table_is l m g

      countable : k.accepted.count + k.refused.count ≤ most
      countable = rw closing (fits l room m (omega (arith, room_length))).counts

      unaddressed : has_address m ≡ false → Right (Err refusal.Address) out
      unaddressed a = refused refusal.Address (no_address g a)

      unparticular : has_address m ≡ true → are_particulars p ≡ false → Right (Err refusal.Particulars) out
      unparticular a b = refused refusal.Particulars (no_particulars g a b)

      module _ (a : has_address m ≡ true) (b : are_particulars p ≡ true) {id : List ℕ} (i : id ≡ id_of m) {s : Status}
          (h : s ≡ saying l.day id p k) where
        is_said : s ≡ said l m p
        is_said = h ∙ ap₂ (λ (x : List ℕ) (c : Closing). saying l.day x p c) (i ∙ address_id m a) closing

        counted : s.references ≡ (said l m p).references
        counted = ap (λ (x : Status). x.references) is_said

        asked : Writable s × Referable m t s.references
        asked = rw (is_said, table) (writable l m p g.day b, said_referable l m p)

        short : length out < 104 + s.references * 65 → Right (Err refusal.Room) out
        short h' = refused refusal.Room (no_room g a b (omega (arith, counted)))

        full : 104 + s.references * 65 ≤ length out → (out' : List ℕ) → out' ≡ over out 0 (written s t (take s.references (items_of lengths m)))
            → Right (Ok (104 + s.references * 65)) out'
        full h' out' w =
            let n : 104 + s.references * 65 ≡ long g a b = omega (arith, counted) in
            let r : written s t (take s.references (items_of lengths m)) ≡ reply l m p =
            rw (is_said, table) (sym (reply_table l m p g.few)) in
            rw n (accepted (long g a b) out' (has_room g a b (omega (arith, n))) (w ∙ ap (over out 0) r))

-- what is lent
abbrev given : Start → Lent
given c = lent_in c.args.day c.args.lists.now

pub slice_bounds-judge-end : goal.slice_bounds-judge-end
slice_bounds-judge-end c = sym (length-replicate {A = ℕ} most 0)

pub returns-in_err-closing : goal.returns-in_err-closing
returns-in_err-closing c =
    let start = (goal.at.returns-in_err-closing c).Start in
    let a = c.args in
    let e : c.from_residual.result ≡ Err c.in_err-closing.field-0.0 = search common in
    rw e (refuses (given start) a.message.now a.particulars a.out.now c.judge.ensures c.in_err-closing.field-0.0 c.in_err-closing.was)

pub returns-then-not-has_address : goal.returns-then-not-has_address
returns-then-not-has_address c =
    let start = (goal.at.returns-then-not-has_address c).Start in
    let a = c.args in
    unaddressed (given start) a.message.now a.particulars a.out.now c.judge.ensures c.in_ok-closing.was
    (sym c.has_address.ensures ∙ c.if-not-has_address.true)

pub returns-then-not-are_particulars : goal.returns-then-not-are_particulars
returns-then-not-are_particulars c =
    let start = (goal.at.returns-then-not-are_particulars c).Start in
    let a = c.args in
    unparticular (given start) a.message.now a.particulars a.out.now c.judge.ensures c.in_ok-closing.was
    (sym c.has_address.ensures ∙ c.if-not-has_address.false) (sym c.are_particulars.ensures ∙ c.if-not-are_particulars.true)

pub said-s-requires : goal.said-s-requires
said-s-requires c =
    let start = (goal.at.said-s-requires c).Start in
    let a = c.args in
    countable (given start) a.message.now a.particulars a.out.now c.judge.ensures c.in_ok-closing.was

pub overflow_mul-n : goal.overflow_mul-n
overflow_mul-n c =
    let start = (goal.at.overflow_mul-n c).Start in
    let a = c.args in
    omega (
      arith,
      (asked (given start) a.message.now a.particulars a.out.now c.judge.ensures c.in_ok-closing.was
          (sym c.has_address.ensures ∙ c.if-not-has_address.false) (sym c.are_particulars.ensures ∙ c.if-not-are_particulars.false)
          c.identifier.ensures c.said-s.ensures).1.most,
    )

pub overflow_add-n-2 : goal.overflow_add-n-2
overflow_add-n-2 c =
    let start = (goal.at.overflow_add-n-2 c).Start in
    let a = c.args in
    omega (
      arith,
      (asked (given start) a.message.now a.particulars a.out.now c.judge.ensures c.in_ok-closing.was
          (sym c.has_address.ensures ∙ c.if-not-has_address.false) (sym c.are_particulars.ensures ∙ c.if-not-are_particulars.false)
          c.identifier.ensures c.said-s.ensures).1.most,
    )

pub returns-then-out-n : goal.returns-then-out-n
returns-then-out-n c =
    let start = (goal.at.returns-then-out-n c).Start in
    let a = c.args in
    short (given start) a.message.now a.particulars a.out.now c.judge.ensures c.in_ok-closing.was
    (sym c.has_address.ensures ∙ c.if-not-has_address.false) (sym c.are_particulars.ensures ∙ c.if-not-are_particulars.false)
    c.identifier.ensures c.said-s.ensures c.if-out-n.true

pub put_reply-requires-clause-writable : goal.put_reply-requires-clause-writable
put_reply-requires-clause-writable c =
    let start = (goal.at.put_reply-requires-clause-writable c).Start in
    let a = c.args in
    asked (given start) a.message.now a.particulars a.out.now c.judge.ensures c.in_ok-closing.was
    (sym c.has_address.ensures ∙ c.if-not-has_address.false) (sym c.are_particulars.ensures ∙ c.if-not-are_particulars.false)
    c.identifier.ensures c.said-s.ensures

pub returns : goal.returns
returns c =
    let start = (goal.at.returns c).Start in
    let a = c.args in
    full (given start) a.message.now a.particulars a.out.now c.judge.ensures c.in_ok-closing.was
    (sym c.has_address.ensures ∙ c.if-not-has_address.false) (sym c.are_particulars.ensures ∙ c.if-not-are_particulars.false)
    c.identifier.ensures c.said-s.ensures c.if-out-n.false _ c.put_reply.ensures
