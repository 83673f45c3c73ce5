-- Reading a reply gives back what was written: the order's positions 10-34, the particulars, the code, the totals and the items' codes.
-- Assumes nothing.
use mathlib.Core.Path.{◌≡◌, refl, sym, ap, ◌∙◌}
use mathlib.Core.Bool.{Bool, true, false, cond, not, ◌&&◌}
use mathlib.Core.List.{List, [], ◌∷◌, map}
use Prim.Native.Nat.{ℕ, ◌+◌, ◌≤◌, ◌<◌}
use native.Mathlib.Omega.{arith}
use lib.Dec.{leb, ltb, eqb}
use lib.ListN.{length, take, drop}
use lib.Seq.{take_at}
use borrow.Author.Tests.{le-leb, ltb-true, lt-ltb, eqb-true, eq-eqb, not-false}
use Rattle.std.specs.Prelude.{Ok}
use Rattle.base.specs.Bytes.{field, over}
use Rattle.base.proofs.Every.{both}
use Rattle.calendar.specs.Calendar.{is_date}
use Rattle.lent.specs.Lent.{Lent}
use Rattle.frame.specs.declared.Found.{Found}
use Rattle.frame.specs.declared.Closing.{Closing}
use Rattle.frame.specs.Records.{lengths, head_of, head_stands, items_of}
use Rattle.frame.specs.Verdict.{Rules, blank, counted, accepted, refused, found_in, message_code, identifier, told_by, overflows}
use Rattle.frame.proofs.Faults.{codeless, all_items}
use Rattle.frame.proofs.Counting.{findings_length}
use Rattle.kinds.specs.Codes.{rules}
use Rattle.frame.specs.declared.Status.{Status}
use Rattle.status.specs.declared.reply.Particulars.{Particulars}
use Rattle.status.specs.Records.{is_address}
use Rattle.fields.specs.Fields.{is_duplicate}
use Rattle.status.specs.Reply.{has_address, are_particulars, saying, room, referred, said, reply, answer, output}
use Rattle.reading.specs.Reading.{zeros_in, others_in, count_of, codes_in, status_in, counts_right, is_status, read_of, table_read}
use Rattle.status.proofs.Bounds.{verdict_is, writable, said_referable, referred_length, referred_codes}
use Rattle.status.proofs.Granted.{granted}
use Rattle.status.proofs.Referred.{address_length, few_length, few_items, reply_few}
use Rattle.reading.proofs.MessageRead.{Readable, count_is, codes_read, status_read, is_status_lem}

-- accepted items are those with code 00, refused those with another
zeros_found : (fs : List Found) → length (accepted fs) ≡ zeros_in (map (λ f. f.code) fs)
zeros_found [] = refl
zeros_found (f ∷ fs) = go (eqb f.code 0) (zeros_found fs)
  where
    go : (b : Bool) → length (accepted fs) ≡ zeros_in (map (λ f. f.code) fs)
        → length (cond b (f ∷ accepted fs) (accepted fs)) ≡ cond b 1 0 + zeros_in (map (λ f. f.code) fs)
    go true e = omega arith
    go false e = omega arith

others_found : (fs : List Found) → length (refused fs) ≡ others_in (map (λ f. f.code) fs)
others_found [] = refl
others_found (f ∷ fs) = go (eqb f.code 0) (others_found fs)
  where
    go : (b : Bool) → length (refused fs) ≡ others_in (map (λ f. f.code) fs)
        → length (cond (not b) (f ∷ refused fs) (refused fs)) ≡ cond b 0 1 + others_in (map (λ f. f.code) fs)
    go true e = omega arith
    go false e = omega arith

all_three : (a b c : Bool) → a ≡ true → b ≡ true → c ≡ true → a && (b && c) ≡ true
all_three a b c p q r = rw (p, q, r)

module _ (l : Lent) (m : List ℕ) (p : Particulars) where
  abbrev R : Rules
  R = rules l

  abbrev fs : List Found
  fs = found_in R m

  -- with code 00 there is an item
  some_item : message_code R m ≡ 0 → 0 < length fs
  some_item z =
      let a = not-false _ (codeless R m z).unbroken in
      let b = both (head_stands lengths m) _ a in
      let c = both (ltb 0 (length (items_of lengths m))) _ b.1 in
      omega (arith, ltb-true 0 (length (items_of lengths m)) c.0, findings_length R (R.tells (head_of lengths m)) 1 (items_of lengths m))

  -- the counts are those of the references
  abbrev agrees : Closing → Bool
  agrees k = counts_right (saying l.day (field 10 34 m) p k) (cond (eqb k.code 0) (map (λ f. f.code) fs) [])

  agrees_counted : message_code R m ≡ 0 → agrees (counted (told_by R m).kind fs (identifier R m)) ≡ true
  unfolding counts_right
  agrees_counted z =
      all_three _ _ _
      (eq-eqb (length (accepted fs)) (zeros_in (map (λ f. f.code) fs)) (zeros_found fs))
      (eq-eqb (length (refused fs)) (others_in (map (λ f. f.code) fs)) (others_found fs))
      (lt-ltb 0 (length (accepted fs) + length (refused fs)) (omega (arith, all_items fs, some_item z)))

  agrees_blank : eqb (message_code R m) 0 ≡ false → agrees (blank (told_by R m).kind (message_code R m) (identifier R m)) ≡ true
  unfolding counts_right
  agrees_blank q = rw q

  counts_right_lem : overflows R room m ≡ false → counts_right (said l m p) (referred l m) ≡ true
  unfolding referred
  counts_right_lem o = ap agrees (verdict_is l room m o) ∙ go (eqb (message_code R m) 0) refl
    where
      go : (z : Bool) → eqb (message_code R m) 0 ≡ z
          → agrees (cond z (counted (told_by R m).kind fs (identifier R m)) (blank (told_by R m).kind (message_code R m) (identifier R m))) ≡ true
      go true q = agrees_counted (eqb-true (message_code R m) 0 q)
      go false q = agrees_blank q

  module _ (d : is_date l.day ≡ true) (o : overflows R room m ≡ false) (a : has_address m ≡ true) (g : are_particulars p ≡ true) where
    abbrev s : Status
    s = said l m p

    abbrev cs : List ℕ
    cs = referred l m

    abbrev few : List (List ℕ)
    few = take s.references (items_of lengths m)

    right_duplicate : is_duplicate p.duplicate ≡ true
    unfolding are_particulars
    right_duplicate = (both (is_duplicate p.duplicate) _ g).0

    right_address : is_address (field 10 34 m) ≡ true
    unfolding has_address
    right_address = (both (leb 34 (length m)) _ a).1

    readable : Readable s cs
    readable =
        record {
          numbers = writable l m p d g;
          long = address_length m a;
          duplicate = right_duplicate;
          address = right_address;
          references = sym (referred_length l m p o);
          most = omega (arith, (said_referable l m p).most, referred_length l m p o);
          codes = referred_codes l m p o;
          counts = counts_right_lem o;
        }

    as_many : length cs ≡ length few
    as_many = referred_length l m p o ∙ sym (few_length l m p o)

    -- a reply is a right STATUS, and says what was written
    pub reply_right : is_status (reply l m p) ≡ true
    reply_right = ap is_status (reply_few l m p o) ∙ is_status_lem s cs few readable as_many (few_items l m p o)

    pub reply_says : status_in (reply l m p) ≡ said l m p
    reply_says = ap status_in (reply_few l m p o) ∙ status_read s cs few readable as_many (few_items l m p o)

    pub reply_codes : codes_in (reply l m p) ≡ referred l m
    reply_codes = ap codes_in (reply_few l m p o) ∙ codes_read s cs few readable as_many (few_items l m p o)

    reply_count : count_of (reply l m p) ≡ length (referred l m)
    reply_count = ap count_of (reply_few l m p o) ∙ count_is s cs few readable as_many (few_items l m p o) ∙ sym as_many

    module _ (t : List ℕ) (h : length (referred l m) ≤ length t) where
      room_for : leb (count_of (reply l m p)) (length t) ≡ true
      room_for = le-leb (count_of (reply l m p)) (length t) (omega (arith, reply_count))

      reply_read : read_of (reply l m p) t ≡ Ok (said l m p)
      unfolding read_of
      reply_read = rw (reply_right, room_for) (ap Ok reply_says)

      reply_read_table : table_read (reply l m p) t ≡ over t 0 (referred l m)
      unfolding table_read
      reply_read_table = rw (reply_right, room_for) (ap (over t 0) reply_codes)

  -- the reply stands at the front of the output
  front : (out : List ℕ) (n : ℕ) → answer l m p out ≡ Ok n → take n (output l m p out) ≡ reply l m p
  unfolding output over
  front out n q = rw q (take_at (reply l m p) (drop (0 + length (reply l m p)) out) n (sym (granted l m p out n q).size))

  -- reading any reply that was written
  pub read_back : (out : List ℕ) (n : ℕ) → answer l m p out ≡ Ok n → (t : List ℕ) → length (referred l m) ≤ length t
      → (read_of (take n (output l m p out)) t ≡ Ok (said l m p))
      × (table_read (take n (output l m p out)) t ≡ over t 0 (referred l m))
  read_back out n q t h =
      let g = granted l m p out n q in
      rw (front out n q)
      (reply_read g.day g.few g.address g.particulars t h, reply_read_table g.day g.few g.address g.particulars t h)
