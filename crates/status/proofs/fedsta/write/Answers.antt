-- `status::fedsta::write` meets its contract: outcome by outcome.
-- Assumes nothing.
use mathlib.Core.Path.{sym, ◌∙◌}
use borrow.Author.Rules.{rules}
use Rattle.status.proofs.CoverWriting.{none, no_cover, unparticular, no_room, wrote, writable}
use Rattle.status.proofs.fedsta.write.Goals as goal

pub returns-in_err-stood : goal.returns-in_err-stood
returns-in_err-stood c =
    let a = c.args in
    let w =
    none a.day a.list.now a.message.now a.id a.covers a.particulars a.count a.out.now (sym c.standing_to.ensures ∙ c.in_err-stood.was) in
    search (rules, w)

pub returns-then-stood-covers : goal.returns-then-stood-covers
returns-then-stood-covers c =
    let a = c.args in
    no_cover a.day a.list.now a.message.now a.id a.covers a.particulars a.count a.out.now
    (sym c.standing_to.ensures ∙ c.in_ok-stood.was) c.if-stood-covers.true

pub returns-then-not-are_cover_particulars : goal.returns-then-not-are_cover_particulars
returns-then-not-are_cover_particulars c =
    let a = c.args in
    let q = sym c.standing_to.ensures ∙ c.in_ok-stood.was in
    unparticular a.day a.list.now a.message.now a.id a.covers a.particulars a.count a.out.now q c.if-stood-covers.false
    (sym c.are_cover_particulars.ensures ∙ c.if-not-are_cover_particulars.true)

pub returns-then-out-lt-BYTES : goal.returns-then-out-lt-BYTES
returns-then-out-lt-BYTES c =
    let a = c.args in
    let q = sym c.standing_to.ensures ∙ c.in_ok-stood.was in
    no_room a.day a.list.now a.message.now a.id a.covers a.particulars a.count a.out.now q c.if-stood-covers.false
    (sym c.are_cover_particulars.ensures ∙ c.if-not-are_cover_particulars.false) c.if-out-lt-BYTES.true

pub put_fedsta-requires : goal.put_fedsta-requires
put_fedsta-requires c =
    let a = c.args in
    let q = sym c.standing_to.ensures ∙ c.in_ok-stood.was in
    let f = sym c.are_cover_particulars.ensures ∙ c.if-not-are_cover_particulars.false in (
      c.if-out-lt-BYTES.false,
      writable a.day a.list.now a.message.now a.id a.covers a.particulars a.count a.out.now q
          c.if-stood-covers.false f c.said.ensures,
    )

pub returns : goal.returns
returns c =
    let a = c.args in
    let q = sym c.standing_to.ensures ∙ c.in_ok-stood.was in
    let f = sym c.are_cover_particulars.ensures ∙ c.if-not-are_cover_particulars.false in
    wrote a.day a.list.now a.message.now a.id a.covers a.particulars a.count a.out.now q c.if-stood-covers.false f
    c.said.ensures c.if-out-lt-BYTES.false c.put_fedsta.ensures
