-- The front of a list is written, part after part.
-- Assumes nothing.
use mathlib.Core.Path.{◌≡◌, refl, sym, ap, ◌∙◌}
use mathlib.Core.List.{List, [], ◌++◌}
use Prim.Native.Nat.{ℕ, ◌+◌, ◌-◌, ◌^◌, ◌≤◌, ◌<◌}
use native.Mathlib.Nat.{zero-add}
use native.Mathlib.Omega.{arith}
use lib.ListN.{length, take, drop, length-append}
use borrow.Rule.Slice.PartMut.{put_mid}
use Rattle.base.specs.Bytes.{over}
use Rattle.base.proofs.Over.{length_over, over_none, over_over, part}
use Rattle.text.proofs.At as text
use Rattle.digits.specs.Digits.{figures}
use Rattle.digits.proofs.At as digits
use Rattle.digits.proofs.Figures.{figures_length}

-- ys is xs with d, n bytes, over its front
pub record Put (xs : List ℕ) (n : ℕ) (d ys : List ℕ) : Type 0 where
  pub is : ys ≡ over xs 0 d
  pub long : length d ≡ n

pub first : (xs d ys : List ℕ) (n : ℕ) → ys ≡ over xs 0 d → length d ≡ n → Put xs n d ys
first xs d ys n e l = record { is = e; long = l }

-- nothing yet
pub none : (xs : List ℕ) → Put xs 0 [] xs
none xs = record { is = sym (over_none xs 0); long = refl }

module _ {xs : List ℕ} {n : ℕ} {d ys : List ℕ} (p : Put xs n d ys) where
  kept : n ≤ length xs → length ys ≡ length xs
  kept h = ap length p.is ∙ length_over xs 0 d (omega (arith, p.long))

  module _ (e zs : List ℕ) (k : ℕ) (l : length e ≡ k) (h : n + k ≤ length xs) where
    -- and e, k bytes, right after them
    pub next : zs ≡ over ys n e → Put xs (n + k) (d ++ e) zs
    next q =
        let m : n ≡ 0 + length d = sym (zero-add (length d) ∙ p.long) in
        let o : over (over xs 0 d) (0 + length d) e ≡ over xs 0 (d ++ e) = over_over xs 0 d e (omega (arith, l, p.long)) in
        record {
          is = q ∙ ap (λ (y : List ℕ). over y n e) p.is ∙ ap (λ (i : ℕ). over (over xs 0 d) i e) m ∙ o;
          long = length-append d e ∙ omega (arith, p.long, l);
        }

-- what is written into a part, after the first n
pub after : {xs : List ℕ} {n : ℕ} {d ys : List ℕ} → Put xs n d ys → (e zs : List ℕ) (k : ℕ) → length e ≡ k → n + k ≤ length xs
    → zs ≡ over (take (length ys - n) (drop n ys)) 0 e → Put xs (n + k) (d ++ e) (put_mid n (length ys - n) ys zs)
after {xs} {n} {d} {ys} p e zs k l h q =
    let m : length ys ≡ length xs = kept p (omega arith) in
    next p e (put_mid n (length ys - n) ys zs) k l h (part ys n e zs (omega (arith, m, l)) q)

module _ {xs : List ℕ} {n : ℕ} {d ys : List ℕ} (p : Put xs n d ys) {r : ℕ} {zs : List ℕ} where
  -- a text of k bytes, put at place n
  pub with_text : (s : List ℕ) (k : ℕ) → length s ≡ k → n + k ≤ length xs → text.PutAt ys n s r zs → Put xs (n + k) (d ++ s) zs
  with_text s k l h q =
      let m : length ys ≡ length xs = kept p (omega arith) in
      next p s zs k l h (text.puts ys n s (omega (arith, m, l)) q).bytes

  -- a number of w digits, put at place n
  pub with_number : (w i : ℕ) → i < 10 ^ w → n + w ≤ length xs → digits.PutAt ys n w i r zs → Put xs (n + w) (d ++ figures w i) zs
  with_number w i s h q =
      let m : length ys ≡ length xs = kept p (omega arith) in
      next p (figures w i) zs w (figures_length w i) h (digits.puts ys n w i (omega (arith, m)) s q).bytes
