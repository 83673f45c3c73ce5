-- The numbers of a state stay in their ranges, whatever is read, for any sound rules.
-- Assumes nothing.
use mathlib.Core.Path.{◌≡◌, refl, sym}
use mathlib.Core.Bool.{Bool, true, false, cond, not, ◌&&◌}
use mathlib.Core.List.{List, []}
use Prim.Native.Nat.{ℕ, ◌+◌, ◌*◌, ◌≤◌, ◌<◌}
use native.Mathlib.Omega.{arith}
use lib.ListN.{length, take, set, length-set}
use lib.Dec.{ltb, eqb}
use borrow.Author.Tests.{ltb-true}
use Rattle.frame.specs.declared.Found.{Found}
use Rattle.frame.specs.declared.Tally.{Tally}
use Rattle.frame.specs.Records.{lengths, ended, is_foot}
use Rattle.frame.specs.Verdict.{Rules, is_accepted}
use Rattle.frame.specs.Sound.{Sound, most_code, most_amount}
use Rattle.frame.specs.Machine.{
  State,
  phased,
  at,
  items,
  sum,
  earlier,
  item_tally,
  item_counted,
  head_tally,
  head_read,
  item_read,
  foot_tally,
  foot_read,
  judged,
}
use Rattle.judge.specs.Session.{state_with}
use Rattle.judge.specs.Inner.{Ready, Read}

abbrev pub Valid : State → Type 0
Valid s = Ready s.tally s.table

pub read_ready : (s : State) (c : Tally) (t : List ℕ) → Valid s → Read s c t → Ready c t
read_ready s c t v r = rw (r.tally, r.bytes) v

-- the state between two records is its tally and its table
pub read_state : (s : State) (c : Tally) (t : List ℕ) → Read s c t → s.held ≡ [] → state_with c [] t ≡ s
read_state s c t r e = rw (r.tally, r.bytes) (λ i. record { tally = s.tally; held = sym e i; table = s.table })

earlier_le : (c d : ℕ) → c ≤ most_code → d ≤ most_code → earlier c d ≤ most_code
earlier_le c d h k = go (eqb c 0)
  where
    go : (t : Bool) → cond t d c ≤ most_code
    go true = k
    go false = h

ready_phased : (c : Tally) (t : List ℕ) (p : ℕ) → Ready c t → p ≤ 4 → Ready (phased p c) t
ready_phased c t p v l =
    record {
      phase = l;
      told = v.told;
      code = v.code;
      most = v.most;
      items = v.items;
      accepted = v.accepted;
      refused = v.refused;
      zeros = v.zeros;
    }

module _ (s : State) (v : Valid s) where
  abbrev c : Tally
  c = s.tally

  pub valid_at : (p : ℕ) (h : List ℕ) → p ≤ 4 → Valid (at p h s)
  valid_at p h l = ready_phased c s.table p v l

  valid_counted : (f : Found) → f.fault ≤ most_code → f.amount ≤ most_amount → items c < length s.table → Valid (item_counted s f)
  unfolding item_counted item_tally
  valid_counted f a b l =
      let n : length (set s.table (items c) f.code) ≡ length s.table = length-set s.table (items c) f.code in
      record {
        phase = omega arith;
        told = v.told;
        code = earlier_le c.code f.fault v.code a;
        most = omega (arith, v.most);
        items = one (is_accepted f) n;
        accepted = paid c.accepted.sum c.accepted.count (is_accepted f) v.accepted;
        refused = paid c.refused.sum c.refused.count (not (is_accepted f)) v.refused;
        zeros = watched (is_accepted f) f.zero;
      }
    where
      one : (t : Bool) → length (set s.table (items c) f.code) ≡ length s.table
          → c.accepted.count + cond t 1 0 + (c.refused.count + cond (not t) 1 0) ≤ length (set s.table (items c) f.code)
      one true n = omega arith
      one false n = omega arith

      paid : (m n : ℕ) (t : Bool) → m ≤ most_amount * n → m + cond t f.amount 0 ≤ most_amount * (n + cond t 1 0)
      paid m n true h = omega arith
      paid m n false h = omega arith

      watched : (t u : Bool) → c.zeros + cond (t && u) 1 0 ≤ c.accepted.count + cond t 1 0
      watched true true = omega (arith, v.zeros)
      watched true false = omega (arith, v.zeros)
      watched false u = omega (arith, v.zeros)

  module _ (R : Rules) (ok : Sound R) where
    valid_head : (r : List ℕ) → Valid (head_read R s r)
    unfolding head_read head_tally
    valid_head r =
        record {
          phase = omega arith;
          told = ok.told r;
          code = ok.head r;
          most = v.most;
          items = v.items;
          accepted = v.accepted;
          refused = v.refused;
          zeros = v.zeros;
        }

    valid_item : (r : List ℕ) → Valid (item_read R s r)
    unfolding item_read
    valid_item r = go (ltb (items c) (length s.table)) refl
      where
        f : Found
        f = R.item c.told (items c + 1) r

        go : (t : Bool) → ltb (items c) (length s.table) ≡ t → Valid (cond t (item_counted s f) (at 4 [] s))
        go true q =
            valid_counted f (ok.fault c.told (items c + 1) r) (ok.amount c.told (items c + 1) r)
            (ltb-true (items c) (length s.table) q)
        go false q = valid_at 4 [] (omega arith)

    valid_foot : (r : List ℕ) → Valid (foot_read R s r)
    unfolding foot_read foot_tally
    valid_foot r = go (eqb (items c) 0)
      where
        read : Tally
        read =
            record {
              phase = 2;
              told = c.told;
              letter = c.letter;
              code = earlier c.code (R.foot_code (items c) (sum c) r);
              accepted = c.accepted;
              refused = c.refused;
              zeros = c.zeros;
              id = c.id;
            }

        go : (t : Bool) → Ready (cond t (phased 3 c) read) s.table
        go true = ready_phased c s.table 3 v (omega arith)
        go false =
            record {
              phase = omega arith;
              told = v.told;
              code = earlier_le c.code (R.foot_code (items c) (sum c) r) v.code (ok.foot (items c) (sum c) r);
              most = v.most;
              items = v.items;
              accepted = v.accepted;
              refused = v.refused;
              zeros = v.zeros;
            }

    either : (b : Bool) (x y : State) → Valid x → Valid y → Valid (cond b x y)
    either true x y p q = p
    either false x y p q = q

    pub valid_judged : (x : List ℕ) → Valid (judged R s x)
    unfolding judged
    valid_judged x =
        let broken = valid_at 3 [] (omega arith) in
        either (eqb c.phase 0) _ _
        (either (ended lengths.head x) _ _ (valid_head (take lengths.head x)) broken)
        (either (is_foot x) _ _
        (either (ended lengths.foot x) _ _ (valid_foot (take lengths.foot x)) broken)
        (either (ended lengths.item x) _ _ (valid_item (take lengths.item x)) broken))

module _ (R : Rules) (s : State) where
  either_none : (b : Bool) (x y : State) → x.held ≡ [] → y.held ≡ [] → (cond b x y).held ≡ []
  either_none true x y p q = p
  either_none false x y p q = q

  -- what is judged holds nothing
  pub judged_none : (x : List ℕ) → (judged R s x).held ≡ []
  unfolding judged head_read item_read item_counted foot_read
  judged_none x =
      either_none (eqb s.tally.phase 0) _ _
      (either_none (ended lengths.head x) _ _ refl refl)
      (either_none (is_foot x) _ _
      (either_none (ended lengths.foot x) _ _ refl refl)
      (either_none (ended lengths.item x) _ _ (either_none (ltb (items s.tally) (length s.table)) _ _ refl refl) refl))
