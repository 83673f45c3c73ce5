-- `heads::atutal_in` meets its contract: each field by its own test.
-- Assumes nothing.
use mathlib.Core.Path.{◌≡◌, sym, ap, ◌∙◌}
use mathlib.Core.Bool.{Bool, not, ◌||◌, and-true}
use mathlib.Core.List.{List, [], ◌∷◌}
use Prim.Native.Nat.{ℕ}
use native.Mathlib.Omega.{arith}
use lib.Dec.{eqb}
use borrow.Author.Rules.{rules}
use lib.ListN.{length, get_or, take, drop, length-drop}
use lib.Seq.{length-take-le}
use Rattle.base.specs.Bytes.{field}
use Rattle.digits.specs.Digits.{digit, is_digits}
use Rattle.lists.specs.Banks.{found_in}
use Rattle.findings.specs.declared.Kind.{Kind}
use Rattle.findings.specs.declared.Kind.TheVariants.{Mark, NotDigits, NotListed, BlankOrZero}
use Rattle.findings.specs.Findings.{Finding, Right, unless}
use Rattle.fields.specs.Fields.{digits_of, duplicate_found}
use Rattle.fields.proofs.Numbers.{right_length}
use Rattle.fields.proofs.Byte.{one}
use Rattle.heads.specs.declared.HeadFindings.{HeadFindings}
use Rattle.heads.specs.Heads.{atutal_fields}
use Rattle.heads.proofs.atutal_in.Goals as goal

abbrev tested : Bool → Kind → Finding
tested t k = unless t k Right

-- the duplicate code is one byte
byte_mark : (s : List ℕ) (b : ℕ) → s ≡ b ∷ [] → tested (digit b || eqb b 0x40) Mark ≡ duplicate_found s
byte_mark s b e = rw e (simp and-true)

-- the number has four
four : (r : List ℕ) → length r ≡ 174 → is_digits (field 31 34 r) ≡ digits_of 4 (field 31 34 r)
four r h = sym (right_length 4 (take 4 (drop 30 r)) (length-take-le 4 (drop 30 r) (omega (arith, length-drop 30 r))))

-- twelve findings that are those of a head
module _ (h : HeadFindings) where
  made : {m0 m1 d2 i3 i4 d5 n6 b7 a8 d9 p10 n11 : Finding}
      → m0 ≡ h.mark → m1 ≡ h.message → d2 ≡ h.duplicate → i3 ≡ h.initiator → i4 ≡ h.identifier → d5 ≡ h.date
      → n6 ≡ h.number → b7 ≡ h.bank → a8 ≡ h.account → d9 ≡ h.debit → p10 ≡ h.purpose → n11 ≡ h.name
      → record {
        mark = m0;
        message = m1;
        duplicate = d2;
        initiator = i3;
        identifier = i4;
        date = d5;
        number = n6;
        bank = b7;
        account = a8;
        debit = d9;
        purpose = p10;
        name = n11;
      }
      ≡ h
  made p0 p1 p2 p3 p4 p5 p6 p7 p8 p9 p10 p11 =
      λ i. record {
        mark = p0 i;
        message = p1 i;
        duplicate = p2 i;
        initiator = p3 i;
        identifier = p4 i;
        date = p5 i;
        number = p6 i;
        bank = p7 i;
        account = p8 i;
        debit = p9 i;
        purpose = p10 i;
        name = p11 i;
      }

pub returns : goal.returns
unfolding atutal_fields
returns c =
    let r = c.args.r.now in
    let h : length r ≡ 174 = search rules in
    let m = c.found.ensures ∙ ap (λ (t : Bool). tested t Mark) c.is_same.ensures in
    let x = get_or r 8 0 in
    let u = byte_mark (take 1 (drop 8 r)) x (one r 8 (omega (arith, h))) in
    let d = c.found-2.ensures ∙ ap (λ (t : Bool). tested (t || eqb x 0x40) Mark) c.is_digit.ensures ∙ u in
    let q = c.found-3.ensures ∙ ap (λ (t : Bool). tested t NotDigits) (c.is_digits.ensures ∙ four r h) in
    let p = c.found-4.ensures ∙ ap (λ (t : Bool). tested t NotListed) c.is_purpose.ensures in
    let n = c.found-5.ensures ∙ ap (λ (t : Bool). tested (not t) BlankOrZero) c.is_blank.ensures in
    made (atutal_fields c.args.e (found_in c.args.banks.now) c.args.known.now r)
    c.type_found.ensures m d c.initiator_found.ensures c.identifier_in.ensures c.compiled_found.ensures q
    c.bank_found.ensures c.account_found.ensures c.debit_in.ensures p n
