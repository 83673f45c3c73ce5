-- The ranges of a session: what the test of them says, and that no call yields a session outside them.
-- Assumes nothing.
use mathlib.Core.Path.{◌≡◌, refl, ap, ◌∙◌}
use mathlib.Core.Bool.{Bool, true, false, cond}
use mathlib.Core.List.{List, [], ◌∷◌, ◌++◌}
use Prim.Native.Nat.{ℕ, ◌+◌, ◌*◌, ◌≤◌, ◌<◌}
use native.Mathlib.Omega.{arith}
use native.Mathlib.Nat.{min-le_left}
use lib.ListN.{length, take, length-set, length-take}
use lib.Dec.{leb, ltb, eqb}
use borrow.Author.Tests.{leb-true, leb-false, ltb-true, eqb-true, le-leb, lt-leb, lt-ltb, eq-eqb}
use Rattle.base.proofs.Every.{both}
use Rattle.calendar.specs.Calendar.{is_date}
use Rattle.lent.specs.Lent.{Outcome, Lists, list_refused, by}
use Rattle.lent.specs.declared.Refusal.{Refusal}
use Rattle.lent.specs.declared.Refusal.TheVariants as refusal
use Rattle.std.proofs.Common.{Ok, Err}
use Rattle.frame.specs.Records.{lengths, ended, is_foot}
use Rattle.frame.specs.Verdict.{Rules}
use Rattle.frame.specs.Sound.{Sound, CanTell, most_code, most_amount, most_kind}
use Rattle.frame.specs.Machine.{State, fresh, at, items, size, head_read, item_counted, item_read, foot_read, judged, pushed, step, run}
use Rattle.kinds.specs.Codes.{rules}
use Rattle.kinds.proofs.Instance.{sound}
use Rattle.judge.specs.declared.Session.{Session}
use Rattle.judge.specs.Session.{
  most,
  pad,
  state_of,
  session_of,
  tally_in_range,
  held_in_range,
  in_range,
  give,
  open_refused,
  opened,
  piece_refused,
  lent_to,
  after,
  taken,
}
use Rattle.judge.specs.Inner.{Fit}
use Rattle.judge.proofs.Held.{take_pad, size_least}
use Rattle.judge.proofs.Valid.{Valid, valid_at, valid_judged, judged_none}

-- every number of a session is in its range
pub record Ranged (s : Session) : Type 0 where
  pub day : is_date s.day ≡ true
  pub most : s.room ≤ most
  pub phase : s.tally.phase ≤ 4
  pub told : CanTell s.tally.told
  pub code : s.tally.code ≤ most_code
  pub items : s.tally.accepted.count + s.tally.refused.count ≤ s.room
  pub accepted : s.tally.accepted.sum ≤ most_amount * s.tally.accepted.count
  pub refused : s.tally.refused.sum ≤ most_amount * s.tally.refused.count
  pub zeros : s.tally.zeros ≤ s.tally.accepted.count
  pub early : s.tally.phase ≤ 1 → s.fill < size s.tally.phase (take s.fill s.held)
  pub late : 1 < s.tally.phase → s.fill ≡ 0

module _ (p n : ℕ) (h : List ℕ) where
  held_early : held_in_range p n h ≡ true → p ≤ 1 → n < size p (take n h)
  unfolding held_in_range
  held_early e l = ltb-true n (size p (take n h)) (rw (le-leb p 1 l) at e)

  held_late : held_in_range p n h ≡ true → 1 < p → n ≡ 0
  unfolding held_in_range
  held_late e l = eqb-true n 0 (rw (lt-leb p 1 l) at e)

  held_in : (p ≤ 1 → n < size p (take n h)) → (1 < p → n ≡ 0) → held_in_range p n h ≡ true
  unfolding held_in_range
  held_in f g = go (leb p 1) refl
    where
      go : (b : Bool) → leb p 1 ≡ b → cond b (ltb n (size p (take n h))) (eqb n 0) ≡ true
      go true q = lt-ltb n (size p (take n h)) (f (leb-true p 1 q))
      go false q = eq-eqb n 0 (g (leb-false p 1 q))

-- what the test says
pub ranged : (s : Session) → in_range s ≡ true → Ranged s
unfolding in_range tally_in_range
ranged s e =
    let c = s.tally in
    let q₁ = both (is_date s.day) _ e in
    let q₂ = both (leb s.room most) _ q₁.1 in
    let q₃ = both (tally_in_range s.room c) (held_in_range c.phase s.fill s.held) q₂.1 in
    let t₁ = both (leb c.phase 4) _ q₃.0 in
    let t₂ = both (leb c.told.kind (most_kind c.told.barred)) _ t₁.1 in
    let t₃ = both (leb c.code most_code) _ t₂.1 in
    let t₄ = both (leb (items c) s.room) _ t₃.1 in
    let t₅ = both (leb c.accepted.sum (most_amount * c.accepted.count)) _ t₄.1 in
    let t₆ = both (leb c.refused.sum (most_amount * c.refused.count)) _ t₅.1 in
    record {
      day = q₁.0;
      most = leb-true s.room most q₂.0;
      phase = leb-true c.phase 4 t₁.0;
      told = leb-true c.told.kind (most_kind c.told.barred) t₂.0;
      code = leb-true c.code most_code t₃.0;
      items = leb-true (items c) s.room t₄.0;
      accepted = leb-true c.accepted.sum (most_amount * c.accepted.count) t₅.0;
      refused = leb-true c.refused.sum (most_amount * c.refused.count) t₆.0;
      zeros = leb-true c.zeros c.accepted.count t₆.1;
      early = held_early c.phase s.fill s.held q₃.1;
      late = held_late c.phase s.fill s.held q₃.1;
    }

-- and when it passes
pub in_range_lem : (s : Session) → Ranged s → in_range s ≡ true
unfolding in_range tally_in_range
in_range_lem s v =
    let c = s.tally in
    rw (
      v.day,
      le-leb s.room most v.most,
      le-leb c.phase 4 v.phase,
      le-leb c.told.kind (most_kind c.told.barred) v.told,
      le-leb c.code most_code v.code,
      le-leb (items c) s.room v.items,
      le-leb c.accepted.sum (most_amount * c.accepted.count) v.accepted,
      le-leb c.refused.sum (most_amount * c.refused.count) v.refused,
      le-leb c.zeros c.accepted.count v.zeros,
    )
    (held_in c.phase s.fill s.held v.early v.late)

-- beside its table, a session in range can be read on
pub fit : (s : Session) (t : List ℕ) → in_range s ≡ true → length t ≡ s.room → Fit s.tally s.fill s.held t
fit s t e l =
    let v = ranged s e in
    record {
      ready = record {
        phase = v.phase;
        told = v.told;
        code = v.code;
        most = omega (arith, v.most);
        items = omega (arith, v.items);
        accepted = v.accepted;
        refused = v.refused;
        zeros = v.zeros;
      };
      early = v.early;
      late = v.late;
    }

-- a state in its ranges, with a table of n bytes; what it holds isn't a whole record
pub record Kept (n : ℕ) (s : State) : Type 0 where
  pub valid : Valid s
  pub room : length s.table ≡ n
  pub early : s.tally.phase ≤ 1 → length s.held < size s.tally.phase s.held
  pub late : 1 < s.tally.phase → s.held ≡ []

-- between two records
kept_between : (n : ℕ) (s : State) → Valid s → length s.table ≡ n → s.held ≡ [] → Kept n s
kept_between n s v l e =
    record {
      valid = v;
      room = l;
      early = λ p. omega (arith, ap length e, size_least s.tally.phase s.held);
      late = λ p. e;
    }

either_long : (n : ℕ) (b : Bool) (x y : State) → length x.table ≡ n → length y.table ≡ n → length (cond b x y).table ≡ n
either_long n true x y p q = p
either_long n false x y p q = q

module _ (R : Rules) (ok : Sound R) where
  -- judging a record keeps the table's length
  judged_long : (s : State) (x : List ℕ) → length (judged R s x).table ≡ length s.table
  unfolding judged head_read item_read item_counted foot_read
  judged_long s x =
      let c = s.tally in
      let n : ℕ = length s.table in
      let set_long = length-set s.table (items c) (R.item c.told (items c + 1) (take lengths.item x)).code in
      either_long n (eqb c.phase 0) _ _
      (either_long n (ended lengths.head x) _ _ refl refl)
      (either_long n (is_foot x) _ _
      (either_long n (ended lengths.foot x) _ _ refl refl)
      (either_long n (ended lengths.item x) _ _ (either_long n (ltb (items c) n) _ _ set_long refl) refl))

  module _ (n : ℕ) (s : State) (k : Kept n s) where
    abbrev phase : ℕ
    phase = s.tally.phase

    kept_judged : (x : List ℕ) → Kept n (judged R s x)
    kept_judged x = kept_between n (judged R s x) (valid_judged s k.valid R ok x) (judged_long s x ∙ k.room) (judged_none R s x)

    kept_step : (b : ℕ) → Kept n (step R s b)
    unfolding step pushed
    kept_step b = go (leb phase 1) refl (leb (size phase g) (length g)) refl (eqb phase 4)
      where
        g : List ℕ
        g = s.held ++ (b ∷ [])

        go : (x : Bool) → leb phase 1 ≡ x → (y : Bool) → leb (size phase g) (length g) ≡ y → (z : Bool)
            → Kept n (cond x (cond y (judged R s g) (at phase g s)) (cond z s (at 3 [] s)))
        go true p true q z = kept_judged g
        go true p false q z =
            record {
              valid = valid_at s k.valid phase g k.valid.phase;
              room = k.room;
              early = λ l. leb-false (size phase g) (length g) q;
              late = λ l. absurd (omega (arith, leb-true phase 1 p));
            }
        go false p y q true = k
        go false p y q false = kept_between n (at 3 [] s) (valid_at s k.valid 3 [] (omega arith)) k.room refl

  pub kept_run : (n : ℕ) (s : State) (x : List ℕ) → Kept n s → Kept n (run R s x)
  unfolding run
  kept_run n s [] k = k
  kept_run n s (b ∷ x) k = kept_run n (step R s b) x (kept_step n s k b)

pub kept_fresh : (t : List ℕ) → length t ≤ most → Kept (length t) (fresh t)
kept_fresh t l =
    kept_between (length t) (fresh t)
    (record {
      phase = omega arith;
      told = omega arith;
      code = omega arith;
      most = l;
      items = omega arith;
      accepted = omega arith;
      refused = omega arith;
      zeros = omega arith;
    })
    refl refl

-- the session of such a state is in range, and stands for it
module _ (e n : ℕ) (s : State) (k : Kept n s) where
  held_is : take (length s.held) (pad s.held) ≡ s.held
  held_is = take_pad s.held (length s.held) refl

  pub session_in_range : is_date e ≡ true → in_range (session_of e n s) ≡ true
  session_in_range d =
      let v = k.valid in
      in_range_lem (session_of e n s)
      (record {
        day = d;
        most = omega (arith, v.most, k.room);
        phase = v.phase;
        told = v.told;
        code = v.code;
        items = omega (arith, v.items, k.room);
        accepted = v.accepted;
        refused = v.refused;
        zeros = v.zeros;
        early = λ p. rw held_is (k.early p);
        late = λ p. ap length (k.late p);
      })

  pub session_state : state_of (session_of e n s) s.table ≡ s
  session_state = λ i. record { tally = s.tally; held = held_is i; table = s.table }

-- the state of a session in range
pub kept_session : (s : Session) (t : List ℕ) → in_range s ≡ true → length t ≡ s.room → Kept s.room (state_of s t)
kept_session s t e l =
    let f = fit s t e l in
    let n = s.fill in
    let h = s.held in
    record {
      valid = f.ready;
      room = l;
      early = λ p. omega (arith, f.early p, length-take n h, min-le_left n (length h));
      late = λ p. ap (λ (m : ℕ). take m h) (f.late p);
    }

-- no call yields a session outside the ranges
pub open_passes : (e : ℕ) (t : List ℕ) → is_date e ≡ true → length t ≤ most → open_refused e t ≡ Ok tt
unfolding open_refused
open_passes e t d l = rw (d, le-leb (length t) most l)

pub opened_in_range : (e : ℕ) (t : List ℕ) → is_date e ≡ true → length t ≤ most → in_range (opened e t).next ≡ true
unfolding opened
opened_in_range e t d l = rw (open_passes e t d l) (session_in_range e (length t) (fresh t) (kept_fresh t l) d)

-- a piece that isn't refused: the session is in range, and the table its own
pub record Passes (s : Session) (n : ℕ) : Type 0 where
  pub in_range_lem : in_range s ≡ true
  pub room : n ≡ s.room

pub piece_passes : (s : Session) (l : Lists) (n : ℕ) → piece_refused s l n ≡ Ok tt → Passes s n
unfolding piece_refused
piece_passes s l n = go (in_range s) refl (list_refused l) (eqb n s.room) refl
  where
    never : {A : Type 0} (r : Refusal) → ◌≡◌ {A = Outcome} (Err r) (Ok tt) → A
    never r q = let z : ◌≡◌ {A = ℕ} 0 1 = cc in absurd (omega arith)

    go : (a : Bool) → in_range s ≡ a → (o : Outcome) (b : Bool) → eqb n s.room ≡ b
        → cond {A = Outcome} a (by o (cond b (Ok tt) (Err refusal.Table)) Err) (Err refusal.Session) ≡ Ok tt → Passes s n
    go false i o b j q = never refusal.Session q
    go true i (Err r) b j q = never r q
    go true i (Ok u) false j q = never refusal.Table q
    go true i (Ok u) true j q = record { in_range_lem = i; room = eqb-true n s.room j }

pub taken_in_range : (s : Session) (p : List ℕ) (l : Lists) (t : List ℕ) → in_range s ≡ true → in_range (taken s p l t).next ≡ true
unfolding taken
taken_in_range s p l t e = go (piece_refused s l (length t)) refl
  where
    n : Session
    n = session_of s.day s.room (after s p l t)

    go : (o : Outcome) → piece_refused s l (length t) ≡ o → in_range (by o (give (Ok tt) n) (λ r. give (Err r) s)).next ≡ true
    go (Err r) q = e
    go (Ok tt) q =
        let k = kept_session s t e (piece_passes s l (length t) q).room in
        let k' = kept_run (rules (lent_to s l)) (sound (lent_to s l)) s.room (state_of s t) p k in
        session_in_range s.day s.room (after s p l t) k' (ranged s e).day
