-- The number of an answer gives back the words of the field that it names and of the kind of its fault: its two parts are their places in the
-- lists of words.
-- Assumes nothing.
use mathlib.Core.Path.{◌≡◌, ap, ◌∙◌}
use mathlib.Core.List.{[]}
use Prim.Native.Nat.{ℕ, ◌+◌, ◌*◌, ◌/◌, ◌%◌, ◌<◌}
use native.Mathlib.Omega.{arith}
use lib.Dec.{lit<}
use lib.ListN.{get_or}
use Rattle.lent.specs.Lent.{refusal_number}
use Rattle.lent.specs.declared.Refusal.{Refusal}
use Rattle.lent.specs.declared.Refusal.TheVariants as refusal
use Rattle.findings.specs.declared.Kind.{Kind}
use Rattle.findings.specs.declared.Kind.TheVariants as kind
use Rattle.findings.specs.declared.Answer.{Answer}
use Rattle.findings.specs.declared.Answer.TheVariants as answer
use Rattle.findings.specs.Findings.{kind_number}
use Rattle.findings.specs.Answers.{answer_number, field_number, field_words, answer_field, kind_words, kind_word}
use Rattle.std.specs.Prelude.{Some}
use Rattle.single.specs.Names.{kind_in}
use Rattle.single.specs.Numbers.{single_number}

-- the numbers of kinds and refusals are below 100
kind_small : (k : Kind) → kind_number k < 100
kind_small kind.Letter = lit< tt
kind_small kind.Mark = lit< tt
kind_small kind.Form = lit< tt
kind_small kind.FormOfFirstEight = lit< tt
kind_small kind.FormOfLastEight = lit< tt
kind_small kind.NotDigits = lit< tt
kind_small kind.CheckDigit = lit< tt
kind_small kind.CheckDigitOverEight = lit< tt
kind_small kind.CheckDigitOverSixteen = lit< tt
kind_small kind.NoDate = lit< tt
kind_small kind.OutsideDays = lit< tt
kind_small kind.NotListed = lit< tt
kind_small kind.Known = lit< tt
kind_small kind.BlankOrZero = lit< tt
kind_small kind.OutOfOrder = lit< tt
kind_small kind.Other = lit< tt

refusal_small : (r : Refusal) → refusal_number r < 100
refusal_small refusal.NotADay = lit< tt
refusal_small refusal.BankList = lit< tt
refusal_small refusal.KnownList = lit< tt
refusal_small refusal.Table = lit< tt
refusal_small refusal.Session = lit< tt
refusal_small refusal.Overflow = lit< tt
refusal_small refusal.Address = lit< tt
refusal_small refusal.Particulars = lit< tt
refusal_small refusal.Room = lit< tt
refusal_small refusal.Malformed = lit< tt
refusal_small refusal.RequestList = lit< tt
refusal_small refusal.Fedjel = lit< tt
refusal_small refusal.Standing = lit< tt
refusal_small refusal.BarredList = lit< tt

small : (a : Answer) → answer_number a < 100
small answer.Accepted = lit< tt
small (answer.Refused r) = refusal_small r
small (answer.Type k) = kind_small k
small (answer.MessageType k) = kind_small k
small (answer.DuplicateCode k) = kind_small k
small (answer.Initiator k) = kind_small k
small (answer.Identifier k) = kind_small k
small (answer.Date k) = kind_small k
small (answer.Number k) = kind_small k
small (answer.Bank k) = kind_small k
small (answer.Account k) = kind_small k
small (answer.DebitDate k) = kind_small k
small (answer.Purpose k) = kind_small k
small (answer.Name k) = kind_small k
small (answer.Remark k) = kind_small k
small (answer.ItemNumber k) = kind_small k
small (answer.Amount k) = kind_small k
small (answer.CustomerId k) = kind_small k
small (answer.Address k) = kind_small k
small (answer.Owner k) = kind_small k
small (answer.DueDate k) = kind_small k

-- the field of any answer; none where it names none
pub field_word : (a : Answer) → get_or field_words (single_number a / 100) [] ≡ answer_field a
unfolding single_number
field_word a =
    let h = small a in
    let e : (field_number a * 100 + answer_number a) / 100 ≡ field_number a = omega arith in
    ap (λ (n : ℕ). get_or field_words n []) e

-- an answer that names a field has its kind's number
names_kind : (a : Answer) (k : Kind) → kind_in a ≡ Some k → answer_number a ≡ kind_number k
names_kind answer.Accepted k e = absurd (cc)
names_kind (answer.Refused r) k e = absurd (cc)
names_kind (answer.Type j) k e = cc
names_kind (answer.MessageType j) k e = cc
names_kind (answer.DuplicateCode j) k e = cc
names_kind (answer.Initiator j) k e = cc
names_kind (answer.Identifier j) k e = cc
names_kind (answer.Date j) k e = cc
names_kind (answer.Number j) k e = cc
names_kind (answer.Bank j) k e = cc
names_kind (answer.Account j) k e = cc
names_kind (answer.DebitDate j) k e = cc
names_kind (answer.Purpose j) k e = cc
names_kind (answer.Name j) k e = cc
names_kind (answer.Remark j) k e = cc
names_kind (answer.ItemNumber j) k e = cc
names_kind (answer.Amount j) k e = cc
names_kind (answer.CustomerId j) k e = cc
names_kind (answer.Address j) k e = cc
names_kind (answer.Owner j) k e = cc
names_kind (answer.DueDate j) k e = cc

-- the kind of an answer that names a field
pub kind_word_lem : (a : Answer) (k : Kind) → kind_in a ≡ Some k → get_or kind_words (single_number a % 100) [] ≡ kind_word k
unfolding single_number
kind_word_lem a k f =
    let h = small a in
    let e : (field_number a * 100 + answer_number a) % 100 ≡ answer_number a = omega arith in
    ap (λ (n : ℕ). get_or kind_words n []) (e ∙ names_kind a k f)
