-- What some element of a list passes doesn't depend on the order.
-- Assumes nothing.
use mathlib.Core.Path.{◌≡◌, refl, ap, ◌∙◌}
use mathlib.Core.Bool.{Bool, true, false, ◌||◌}
use mathlib.Core.List.Permᴰ
use mathlib.Core.List.{List}
use Rattle.base.specs.Groups.{some}
use Rattle.base.specs.Order.{Reordered}

turn : (p q r : Bool) → p || (q || r) ≡ q || (p || r)
turn true true r = refl
turn true false r = refl
turn false true r = refl
turn false false r = refl

pub some_order : {A : Type 0} (f : A → Bool) {xs ys : List A} → Reordered xs ys → some f xs ≡ some f ys
some_order f Permᴰ.nil = refl
some_order {A} f (Permᴰ.cons {b = b} {l₁ = l₁} e d) = ap (λ (x : A). f x || some f l₁) e ∙ ap (λ (x : Bool). f b || x) (some_order f d)
some_order {A} f (Permᴰ.swap {b = b} {a' = a'} {b' = b'} {l = l} e g) =
    ap (λ (x : A). f x || (f b || some f l)) e ∙ ap (λ (x : A). f b' || (f x || some f l)) g ∙ turn (f b') (f a') (some f l)
some_order f (Permᴰ.trans d e) = some_order f d ∙ some_order f e
