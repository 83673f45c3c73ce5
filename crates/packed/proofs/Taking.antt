-- A piece taken where the session stands as bytes: bytes of none, a refusal, and the session to use next.
-- Assumes nothing.
use mathlib.Core.Path.{◌≡◌, refl, sym, ap, ◌∙◌}
use mathlib.Core.Bool.{Bool, true, false}
use mathlib.Core.List.{List, [], ◌++◌, append-nil, append_assoc}
use Prim.Native.Nat.{ℕ, zero, suc, ◌+◌, ◌-◌, ◌≤◌, ◌<◌}
use native.Mathlib.Omega.{arith}
use lib.ListN.{length, get_or, take, drop, length-drop, take-append-drop, drop_of_length-le}
use lib.Seq.{take_all, take_at, drop_at, length-take-le, get_or-take}
use borrow.Author.Tests.{eq-eqb}
use borrow.Rule.Slice.PartMut.{put_mid}
use Rattle.base.specs.Bytes.{over}
use Rattle.base.proofs.Over.{part}
use Rattle.base.proofs.Parts.{drop_take}
use Rattle.calendar.specs.Calendar.{is_date}
use Rattle.lent.specs.Lent.{Outcome, Lists, by}
use Rattle.lent.specs.declared.Refusal.{Refusal}
use Rattle.lent.specs.declared.Refusal.TheVariants as refusal
use Rattle.std.proofs.Common.{Ok, Err}
use Rattle.frame.specs.declared.Tally.{Tally}
use Rattle.judge.specs.declared.Session.{Session}
use Rattle.judge.specs.declared.Taken.{Taken}
use Rattle.judge.specs.declared.Step.{Step}
use Rattle.judge.specs.Session.{
  longest,
  in_range,
  closed_session,
  give,
  piece_refused,
  taken,
  table_taken,
  parts_of,
  parts_refused,
  stepped,
  table_stepped,
  Stepped,
}
use Rattle.packed.specs.Packed.{packed_bytes, value_at, bytes_of, is_packed, tally_in, session_in, unpacked, TakenIn}
use Rattle.packed.specs.Packed.{Fits, tally_over, Named, TallyPut, SteppedIn}
use Rattle.packed.proofs.Little.{value_small}
use Rattle.packed.proofs.Parts.{over_all, steps}
use Rattle.packed.proofs.Fields.{long}
use Rattle.packed.proofs.RoundTrip.{gives_back, of_a_session}
use Rattle.judge.proofs.Kept.{id_stays}

-- the closed session is refused with 5
pub closed_out : in_range closed_session ≡ false
unfolding in_range is_date
closed_out = refl

-- a refusal gives the session as it came
record Stays (s : Session) (w : Taken) : Type 0 where
  stays : (f : Refusal) → w.outcome ≡ Err f → w.next ≡ s

stays_by : (s n : Session) (o : Outcome) → Stays s (by o (give (Ok tt) n) (λ r. give (Err r) s))
stays_by s n (Ok tt) = record { stays = λ f e. let z : ◌≡◌ {A = ℕ} 0 1 = cc in absurd (omega arith) }
stays_by s n (Err r) = record { stays = λ f e. refl }

above : (n : ℕ) → (n ≡ 0 → ⊥) → 1 ≤ n
above zero f = absurd (f refl)
above (suc n) f = omega arith

refused_stays : (s : Session) (p : List ℕ) (l : Lists) (t : List ℕ) → Stays s (taken s p l t)
unfolding taken
refused_stays s p l t = stays_by s _ (piece_refused s l (length t))

-- all from a place on, written over itself
over_same : (x : List ℕ) (a : ℕ) → over x a (drop a x) ≡ x
unfolding over
over_same x a =
    let k : length x ≤ a + length (drop a x) = omega (arith, length-drop a x) in
    let e : drop (a + length (drop a x)) x ≡ [] = drop_of_length-le x k in
    rw e (append-nil (take a x ++ drop a x) ∙ take-append-drop a x)

-- the part from 93 on that was lent and came back
pub back : {x y : List ℕ} {e room : ℕ} {c : Tally} {fill : ℕ} {p : List ℕ} {l : Lists} {t t' : List ℕ} {r : Step}
    → length x ≡ packed_bytes → length y ≡ length (take longest (drop 93 x))
    → e ≡ value_at 4 4 x → room ≡ value_at 8 12 x → c ≡ tally_in x → fill ≡ value_at 8 60 x
    → Stepped e room c fill (take longest (drop 93 x)) p l t r y t' → SteppedIn x p l t r (put_mid 93 longest x y) t'
back {x} {y} h k e o c f s =
    let a : length (take 93 x) ≡ 93 = length-take-le 93 x (omega arith) in
    let m : length x - 93 ≡ longest = omega arith in
    let v : length (take longest (drop 93 x)) ≡ longest = length-take-le longest (drop 93 x) (omega (arith, length-drop 93 x)) in
    let g : length (drop 93 x) ≤ longest = omega (arith, length-drop 93 x) in
    let z : drop longest (drop 93 x) ≡ [] = drop_of_length-le (drop 93 x) g in
    let w : put_mid 93 longest x y ≡ take 93 x ++ y = rw z (ap (λ (u : List ℕ). take 93 x ++ u) (append-nil y)) in
    let d : drop 93 (put_mid 93 longest x y) ≡ y = ap (drop 93) w ∙ drop_at (take 93 x) y 93 a in
    record {
      stays = rw m at (part x 93 y y (omega arith) (rw m (sym (over_all (take longest (drop 93 x)) y k)))) ∙ ap (over x 93) (sym d);
      held = rw (d, ← e, ← o, ← c, ← f) s;
    }

-- the bytes are those of no session
pub no_session : {x p : List ℕ} {l : Lists} {t : List ℕ} {b : Bool} → b ≡ is_packed x → b ≡ false → TakenIn x p l t (Err refusal.Session) x t
unfolding taken table_taken piece_refused unpacked
no_session {x} {b = b} e f =
    let q : is_packed x ≡ false = sym e ∙ f in
    record { outcome = rw (q, closed_out); session = refl; table = rw (q, closed_out); holds = rw (q, closed_out) }

module _ {x p : List ℕ} {l : Lists} {t : List ℕ} (h : is_packed x ≡ true) {r : Step} {y t' : List ℕ} (k : SteppedIn x p l t r y t') where
  abbrev s : Session
  s = session_in x

  abbrev n : Session
  n = parts_of (value_at 4 4 x) (value_at 8 12 x) r.tally r.fill (drop 93 y)

  held_long : length (take longest (drop 93 x)) ≡ longest
  held_long = length-take-le longest (drop 93 x) (omega (arith, length-drop 93 x, long x h))

  next_is : give r.outcome n ≡ taken (unpacked x) p l t
  unfolding stepped taken parts_refused unpacked session_in
  next_is = rw h (rw (eq-eqb (length (take longest (drop 93 x))) longest held_long) at k.held.result)

  table_is : t' ≡ table_taken (unpacked x) p l t
  unfolding table_stepped table_taken parts_refused unpacked session_in
  table_is = rw h (rw (eq-eqb (length (take longest (drop 93 x))) longest held_long) at k.held.bytes)

  -- a refusal leaves the bytes as they came
  pub refused : (f : Refusal) → r.outcome ≡ Err f → TakenIn x p l t (Err f) y t'
  unfolding unpacked session_in
  refused f e =
      let q : (taken (unpacked x) p l t).next ≡ unpacked x =
      (refused_stays (unpacked x) p l t).stays f (ap (λ (w : Taken). w.outcome) (sym next_is) ∙ e) in
      let u : n ≡ s = ap (λ (w : Taken). w.next) next_is ∙ q ∙ rw h in
      let d : drop 93 y ≡ drop 93 x = ap (λ (w : Session). w.held) u ∙ take_all longest (drop 93 x) (omega (arith, length-drop 93 x, long x h)) in
      let z : y ≡ x = k.stays ∙ ap (over x 93) d ∙ over_same x 93 in
      record { outcome = sym e ∙ ap (λ (w : Taken). w.outcome) next_is; session = z; table = table_is; holds = ap unpacked z ∙ sym q }

  -- the bytes before those held are as they came
  front : take 93 y ≡ take 93 x
  unfolding over
  front =
      let d = drop 93 y in
      let a : length (take 93 x) ≡ 93 = length-take-le 93 x (omega (arith, long x h)) in
      let e : y ≡ take 93 x ++ (d ++ drop (93 + length d) x) = k.stays ∙ append_assoc (take 93 x) d (drop (93 + length d) x) in
      ap (take 93) e ∙ take_at (take 93 x) (d ++ drop (93 + length d) x) 93 a

  phase_is : get_or y 1 0 ≡ get_or x 1 0
  phase_is = sym (get_or-take 93 y 1 0 (omega arith)) ∙ ap (λ (l : List ℕ). get_or l 1 0) front ∙ get_or-take 93 x 1 0 (omega arith)

  id_is : take 25 (drop 68 y) ≡ take 25 (drop 68 x)
  id_is = sym (drop_take 68 93 y) ∙ ap (drop 68) front ∙ drop_take 68 93 x

  -- so the identifier stands there already, once the head was read
  pub named : r.outcome ≡ Ok tt → Named r.tally y
  unfolding unpacked session_in tally_in
  named e =
      record {
        stands = λ f.
            let o : (taken (unpacked x) p l t).outcome ≡ Ok tt = ap (λ (w : Taken). w.outcome) (sym next_is) ∙ e in
            let g = id_stays s p l t (rw h at o) (above (get_or x 1 0) (λ z. f (phase_is ∙ z))) in
            id_is ∙ sym (ap (λ (w : Taken). w.next.tally.id) (rw h at next_is) ∙ g);
      }

  -- else the tally is written where it stood
  pub done : length y ≡ packed_bytes → ((i : ℕ) → get_or x i 0 < 256) → r.outcome ≡ Ok tt → {z : List ℕ}
      → TallyPut r.tally r.fill y z → TakenIn x p l t (Ok tt) z t'
  unfolding session_in tally_in
  done m b e {z} w =
      let i = length-take-le 25 (drop 68 x) (omega (arith, length-drop 68 x, long x h)) in
      let j : length (drop 93 y) ≡ longest = omega (arith, length-drop 93 y, m) in
      let f : Fits n =
      record {
        day = value_small 4 x 4 b (omega (arith, long x h));
        room = value_small 8 x 12 b (omega (arith, long x h));
        tally = w.fits;
        held = j;
      } in
      let o = of_a_session x b h in
      let q : z ≡ bytes_of n =
      w.bytes
      ∙ ap (tally_over r.tally r.fill) (k.stays ∙ ap (λ (l : List ℕ). over l 93 (drop 93 y)) (sym o))
      ∙ steps s i held_long r.tally r.fill (drop 93 y) w.fits.id j in
      let u : n ≡ (taken (unpacked x) p l t).next = ap (λ (w : Taken). w.next) next_is in
      record {
        outcome = sym e ∙ ap (λ (w : Taken). w.outcome) next_is;
        session = q ∙ ap bytes_of u;
        table = table_is;
        holds = ap unpacked q ∙ gives_back f ∙ u;
      }
