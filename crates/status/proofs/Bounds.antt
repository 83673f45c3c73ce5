-- The numbers of a verdict fit the fields of a STATUS, and each item counted has its code.
-- Assumes nothing.
use mathlib.Core.Path.{◌≡◌, refl, sym, ◌∙◌}
use mathlib.Core.Bool.{Bool, true, false, cond}
use mathlib.Core.List.{List, [], ◌∷◌, ◌++◌, map}
use Prim.Native.Nat.{ℕ, zero, suc, ◌+◌, ◌/◌, ◌^◌, ◌≤◌, ◌<◌}
use native.Mathlib.Omega.{arith}
use lib.Dec.{leb, eqb, lit<}
use lib.ListN.{length, get_or, take, drop, length-append, length-drop, length-map, length-replicate, get_or-append}
use lib.Seq.{length-take-le, get_or-take, take-take, take_at}
use borrow.Author.Tests.{leb-true, ltb-false, eqb-true, eqb-false}
use Rattle.base.proofs.Every.{both}
use Rattle.calendar.specs.Calendar.{is_date}
use Rattle.calendar.proofs.Dates.{parts}
use Rattle.lent.specs.Lent.{Lent}
use Rattle.frame.specs.declared.Found.{Found}
use Rattle.frame.specs.declared.Tally.{Tally}
use Rattle.frame.specs.declared.Told.{Told}
use Rattle.frame.specs.declared.Closing.{Closing}
use Rattle.frame.specs.Records.{lengths, no_id, head_of, items_of}
use Rattle.frame.specs.Verdict.{Rules, blank, overflow, given, counted, findings, found_in, message_code, identifier, told_by, overflows, verdict, table_after}
use Rattle.frame.specs.Machine.{fresh, run, numbers, closing}
use Rattle.frame.proofs.Whole.{uncut}
use Rattle.frame.proofs.Counting.{findings_length}
use Rattle.frame.proofs.Faults.{all_items}
use Rattle.kinds.specs.Codes.{rules}
use Rattle.kinds.proofs.Instance.{sound}
use Rattle.judge.specs.Session.{most}
use Rattle.judge.specs.Inner.{Ready}
use Rattle.judge.proofs.Ranges.{kept_run, kept_fresh}
use Rattle.status.specs.declared.reply.Particulars.{Particulars}
use Rattle.fields.specs.Fields.{is_duplicate}
use Rattle.status.specs.Reply.{is_time, are_particulars, room, verdict_of, referred, said}
use Rattle.status.specs.Writing.{Writable, Referable}

-- each code has two digits
abbrev pub Codes : List ℕ → Type 0
Codes [] = Unit
Codes (c ∷ cs) = (c < 100) × Codes cs

pub codes_at : (cs : List ℕ) → Codes cs → (i : ℕ) → i < length cs → get_or cs i 0 < 100
codes_at [] h i l = absurd (omega arith)
codes_at (c ∷ cs) h zero l = h.0
codes_at (c ∷ cs) h (suc i) l = codes_at cs h.1 i (omega arith)

-- the numbers of a closing
pub record Fits (k : Closing) : Type 0 where
  pub code : k.code < 100
  pub counts : k.accepted.count + k.refused.count ≤ most
  pub accepted : k.accepted.sum < 10 ^ 16
  pub refused : k.refused.sum < 10 ^ 16

fits_blank : (kind c : ℕ) (id : List ℕ) → c < 100 → Fits (blank kind c id)
fits_blank kind c id h = record { code = h; counts = omega arith; accepted = lit< tt; refused = lit< tt }

one_of : (b : Bool) (k l : Closing) → Fits k → Fits l → Fits (cond b k l)
one_of true k l f g = f
one_of false k l f g = g

fits_numbers : (c : Tally) (t : List ℕ) → Ready c t → Fits (numbers c)
fits_numbers c t v =
    record {
      code = lit< tt;
      counts = omega (arith, v.items, v.most);
      accepted = omega (arith, v.items, v.most, v.accepted);
      refused = omega (arith, v.items, v.most, v.refused);
    }

-- what closing says of a tally whose numbers are in their ranges
fits_closing : (c : Tally) (t : List ℕ) → Ready c t → Fits (closing c).closing
unfolding closing
fits_closing c t v = go (eqb c.phase 4)
  where
    go : (b : Bool)
        → Fits (cond b overflow (given (cond (eqb c.phase 2)
        (cond c.letter (blank c.told.kind 36 c.id) (cond (eqb c.code 0) (numbers c) (blank c.told.kind c.code c.id)))
        (blank c.told.kind 26 c.id)))).closing
    go true = fits_blank 0 0 no_id (lit< tt)
    go false =
        one_of (eqb c.phase 2) _ _
        (one_of c.letter _ _ (fits_blank c.told.kind 36 c.id (lit< tt))
        (one_of (eqb c.code 0) _ _ (fits_numbers c t v) (fits_blank c.told.kind c.code c.id (omega (arith, v.code)))))
        (fits_blank c.told.kind 26 c.id (lit< tt))

module _ (l : Lent) where
  codes_in : (told : Told) (k : ℕ) (rs : List (List ℕ)) → Codes (map (λ f. f.code) (findings (rules l) told k rs))
  unfolding findings
  codes_in told k [] = tt
  codes_in told k (r ∷ rs) = (omega (arith, (sound l).code told k r), codes_in told (k + 1) rs)

module _ (l : Lent) (t m : List ℕ) where
  abbrev R : Rules
  R = rules l

  abbrev v : Closing
  v = (verdict R t m).closing

  abbrev fs : List Found
  fs = found_in R m

  abbrev codes : List ℕ
  codes = map (λ f. f.code) fs

  abbrev n : ℕ
  n = v.accepted.count + v.refused.count

  pub fits : length t ≤ most → Fits (verdict R t m).closing
  fits h =
      let s = run R (fresh t) m in
      rw (← (uncut R t m).says) (fits_closing s.tally s.table (kept_run R (sound l) (length t) (fresh t) m (kept_fresh t h)).valid)

  found_codes : Codes codes
  found_codes = codes_in l (R.tells (head_of lengths m)) 1 (items_of lengths m)

  found_length : length fs ≡ length (items_of lengths m)
  found_length = findings_length R (R.tells (head_of lengths m)) 1 (items_of lengths m)

  codes_length : length codes ≡ length fs
  codes_length = length-map fs (λ f. f.code)

  -- no more items are counted than there are, and than the table has bytes
  counted_few : (n ≤ length fs) × (n ≤ length t)
  unfolding verdict
  counted_few = go (overflows R t m) refl (eqb (message_code R m) 0)
    where
      w : Bool → Bool → Closing
      w o z =
          (cond o overflow (given (cond z (counted (told_by R m).kind fs (identifier R m)) (blank (told_by R m).kind (message_code R m) (identifier R m))))
          ).closing

      go : (o : Bool) → overflows R t m ≡ o → (z : Bool)
          → ((w o z).accepted.count + (w o z).refused.count ≤ length fs) × ((w o z).accepted.count + (w o z).refused.count ≤ length t)
      go true o z = (omega arith, omega arith)
      go false o true = (omega (arith, all_items fs), omega (arith, all_items fs, ltb-false (length t) (length fs) o))
      go false o false = (omega arith, omega arith)

  -- the table keeps its length, and has the items' codes at its front
  table_length : length (table_after R t m) ≡ length t
  unfolding table_after
  table_length =
      let l = length-append codes (drop (length fs) t) in
      length-take-le (length t) (codes ++ drop (length fs) t) (omega (arith, l, length-drop (length fs) t, codes_length))

  table_at : (i : ℕ) → i < length t → i < length fs → get_or (table_after R t m) i 0 ≡ get_or codes i 0
  unfolding table_after
  table_at i l k = get_or-take (length t) (codes ++ drop (length fs) t) i 0 l ∙ get_or-append codes (drop (length fs) t) 0 i (omega (arith, codes_length))

  referable : length t ≤ most → Referable m (table_after R t m) n
  referable h =
      let code : (i : ℕ) → i < n → get_or codes i 0 < 10 ^ 2 = λ i h. codes_at codes found_codes i (omega (arith, counted_few.0, codes_length)) in
      record {
        most = (fits h).counts;
        items = omega (arith, counted_few.0, found_length);
        codes = omega (arith, counted_few.1, table_length);
        small = λ i h. rw (table_at i (omega (arith, counted_few.1)) (omega (arith, counted_few.0))) (code i h);
      }

  module _ (o : overflows R t m ≡ false) where
    -- the numbers where the table had a byte for each item
    abbrev w : Bool → Closing
    w z = cond z (counted (told_by R m).kind fs (identifier R m)) (blank (told_by R m).kind (message_code R m) (identifier R m))

    pub verdict_is : (verdict R t m).closing ≡ w (eqb (message_code R m) 0)
    unfolding verdict
    verdict_is = rw o

    -- with code 00 every item is counted, with another none
    all_counted : v.code ≡ 0 → n ≡ length fs
    all_counted = rw verdict_is (go (eqb (message_code R m) 0) refl)
      where
        go : (z : Bool) → eqb (message_code R m) 0 ≡ z → (w z).code ≡ 0 → (w z).accepted.count + (w z).refused.count ≡ length fs
        go true q c = all_items fs
        go false q c = absurd (eqb-false (message_code R m) 0 q c)

    none_counted : (v.code ≡ 0 → ⊥) → (n ≡ 0) × ((v.accepted.sum ≡ 0) × (v.refused.sum ≡ 0))
    none_counted = rw verdict_is (go (eqb (message_code R m) 0))
      where
        go : (z : Bool) → ((w z).code ≡ 0 → ⊥)
            → ((w z).accepted.count + (w z).refused.count ≡ 0) × (((w z).accepted.sum ≡ 0) × ((w z).refused.sum ≡ 0))
        go true f = absurd (f refl)
        go false f = (refl, (refl, refl))

    -- the codes of the items that are counted
    abbrev told : List ℕ
    told = cond (eqb v.code 0) codes []

    pub told_length : length told ≡ n
    told_length = go (eqb v.code 0) refl
      where
        go : (b : Bool) → eqb v.code 0 ≡ b → length (cond b codes []) ≡ n
        go true q = codes_length ∙ sym (all_counted (eqb-true v.code 0 q))
        go false q = sym (none_counted (eqb-false v.code 0 q)).0

    told_codes : Codes told
    told_codes = go (eqb v.code 0)
      where
        go : (b : Bool) → Codes (cond b codes [])
        go true = found_codes
        go false = tt

    -- they stand at the front of the table
    pub told_table : take n (table_after R t m) ≡ told
    unfolding table_after
    told_table = go (eqb v.code 0) refl
      where
        go : (b : Bool) → eqb v.code 0 ≡ b → take n (take (length t) (codes ++ drop (length fs) t)) ≡ cond b codes []
        go true q =
            let k = all_counted (eqb-true v.code 0 q) in
            take-take n (length t) (codes ++ drop (length fs) t) counted_few.1 ∙ take_at codes (drop (length fs) t) n (codes_length ∙ sym k)
        go false q = rw (none_counted (eqb-false v.code 0 q)).0

-- the date and the particulars fit
pub date_lt : (e : ℕ) → is_date e ≡ true → e < 10 ^ 8
date_lt e d = let h = (parts e d).last_year in omega arith

pub number_lt : (p : Particulars) → are_particulars p ≡ true → p.number < 10 ^ 4
unfolding are_particulars
number_lt p h =
    let a = both (is_duplicate p.duplicate) _ h in
    let b = both (leb p.number 9999) _ a.1 in
    omega (arith, leb-true p.number 9999 b.0)

pub time_lt : (p : Particulars) → are_particulars p ≡ true → p.time < 10 ^ 6
unfolding are_particulars is_time
time_lt p h =
    let a = both (is_duplicate p.duplicate) _ h in
    let b = both (leb p.number 9999) _ a.1 in
    let c = both (leb (p.time / 10000) 23) _ b.1 in
    omega (arith, leb-true (p.time / 10000) 23 c.0)

pub room_length : length room ≡ most
unfolding room
room_length = length-replicate {A = ℕ} most 0

module _ (l : Lent) (m : List ℕ) (p : Particulars) where
  -- each number of a reply fits its field
  pub writable : is_date l.day ≡ true → are_particulars p ≡ true → Writable (said l m p)
  writable d h =
      let f = fits l room m (omega (arith, room_length)) in
      record {
        date = date_lt l.day d;
        number = number_lt p h;
        time = time_lt p h;
        code = f.code;
        accepted = record { count = omega (arith, f.counts); sum = f.accepted };
        refused = record { count = omega (arith, f.counts); sum = f.refused };
      }

  -- the table has a code for each reference
  pub said_referable : Referable m (table_after (rules l) room m) (said l m p).references
  said_referable = referable l room m (omega (arith, room_length))

  module _ (o : overflows (rules l) room m ≡ false) where
    abbrev count : ℕ
    count = (said l m p).references

    pub referred_length : length (referred l m) ≡ count
    unfolding referred
    referred_length = told_length l room m o

    pub referred_codes : Codes (referred l m)
    unfolding referred
    referred_codes = told_codes l room m o

    pub referred_table : take count (table_after (rules l) room m) ≡ referred l m
    unfolding referred
    referred_table = told_table l room m o

    -- with code 00 there is a reference for every item; with another code there is none, and the sums are 0
    pub every_item : (verdict_of l m).closing.code ≡ 0 → count ≡ length (items_of lengths m)
    every_item z = all_counted l room m o z ∙ found_length l room m

    pub no_item : ((verdict_of l m).closing.code ≡ 0 → ⊥)
        → (count ≡ 0) × (((verdict_of l m).closing.accepted.sum ≡ 0) × ((verdict_of l m).closing.refused.sum ≡ 0))
    no_item z = none_counted l room m o z
