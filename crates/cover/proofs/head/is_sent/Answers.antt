-- `cover::head::is_sent` meets its contract: it goes by what is read.
-- Assumes nothing.
use mathlib.Core.Path.{◌≡◌, refl, sym, ap, ◌∙◌}
use mathlib.Core.Bool.{Bool, false}
use mathlib.Core.List.{List}
use Prim.Native.Nat.{ℕ, ◌-◌, ◌≤◌}
use native.Mathlib.Omega.{arith}
use lib.Dec.{leb}
use Rattle.calendar.specs.Calendar.{day_number}
use Rattle.std.specs.Prelude.{Ok, Err}
use Rattle.calendar.specs.DateField.{DateField, date_field}
use Rattle.calendar.specs.declared.DateFault.{DateFault}
use Rattle.cover.specs.Head.{days_back, sent_on}
use Rattle.cover.proofs.Dates.{late, sent}
use Rattle.cover.proofs.head.is_sent.Goals as goal

is_read : (e : ℕ) (s : List ℕ) {r : DateField} → r ≡ date_field s → {q : DateField} → r ≡ q → {b : Bool} → b ≡ sent_on e q → b ≡ sent_on e (date_field s)
is_read e s f g h = h ∙ ap (sent_on e) (sym g ∙ f)

no_date : (e : ℕ) (f : DateFault) → false ≡ sent_on e (Err f)
unfolding sent_on
no_date e f = refl

counted : (e d : ℕ) {x y : ℕ} → x ≡ day_number e → y ≡ day_number d → y ≤ x → {w : ℕ} → w ≡ days_back x → leb (x - y) w ≡ sent_on e (Ok d)
counted e d {x} {y} f g h {w} k =
    let l : day_number d ≤ day_number e = omega (arith, f, g, h) in
    let z : x - y ≡ day_number e - day_number d = omega (arith, f, g) in
    ap (λ (i : ℕ). leb i w) z ∙ ap (leb (day_number e - day_number d)) (k ∙ ap days_back f) ∙ sent e d l

pub returns-then-n-e : goal.returns-then-n-e
returns-then-n-e c =
    let a = c.args in
    let n = c.day_number-n.ensures in
    let e = c.day_number-e.ensures in
    is_read a.day a.s.now c.read_date.ensures c.in-Ok.is (late a.day _ (omega (arith, c.if-n-e.true, n, e)))

pub returns-in-Err : goal.returns-in-Err
returns-in-Err c =
    let a = c.args in
    is_read a.day a.s.now c.read_date.ensures c.in-Err.is (no_date a.day _)

pub returns-else-n-e : goal.returns-else-n-e
returns-else-n-e c =
    let a = c.args in
    let n = c.day_number-n.ensures in
    let e = c.day_number-e.ensures in
    is_read a.day a.s.now c.read_date.ensures c.in-Ok.is (counted a.day _ e n c.if-n-e.false c.days_back.ensures)
