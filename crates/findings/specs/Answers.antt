-- What 01 calls each answer: the number of a refusal, the field that is named, and the kind of its fault; each in words.
-- Assumes nothing.
use Rattle.std.specs.Prelude.{ℕ, List, [], ◌∷◌, get_or}
use Rattle.base.specs.Bytes.{ascii}
use Rattle.findings.specs.declared.Kind.{Kind}
use Rattle.findings.specs.declared.Answer.{Answer}
use Rattle.findings.specs.declared.Answer.TheVariants as answer
use Rattle.lent.specs.Lent.{refusal_number}
use Rattle.findings.specs.Findings.{kind_number}

-- the number of a refusal, the kind of a fault; 0 for acceptance
abbrev pub answer_number : Answer → ℕ
answer_number answer.Accepted = 0
answer_number (answer.Refused r) = refusal_number r
answer_number (answer.Type k) = kind_number k
answer_number (answer.MessageType k) = kind_number k
answer_number (answer.DuplicateCode k) = kind_number k
answer_number (answer.Initiator k) = kind_number k
answer_number (answer.Identifier k) = kind_number k
answer_number (answer.Date k) = kind_number k
answer_number (answer.Number k) = kind_number k
answer_number (answer.Bank k) = kind_number k
answer_number (answer.Account k) = kind_number k
answer_number (answer.DebitDate k) = kind_number k
answer_number (answer.Purpose k) = kind_number k
answer_number (answer.Name k) = kind_number k
answer_number (answer.Remark k) = kind_number k
answer_number (answer.ItemNumber k) = kind_number k
answer_number (answer.Amount k) = kind_number k
answer_number (answer.CustomerId k) = kind_number k
answer_number (answer.Address k) = kind_number k
answer_number (answer.Owner k) = kind_number k
answer_number (answer.DueDate k) = kind_number k

-- the number of the field that an answer names: those of a head in their order, those that only an item has, and the one that only an item
-- of BESZED has; 0 where none is named
abbrev pub field_number : Answer → ℕ
field_number answer.Accepted = 0
field_number (answer.Refused r) = 0
field_number (answer.Type k) = 1
field_number (answer.MessageType k) = 2
field_number (answer.DuplicateCode k) = 3
field_number (answer.Initiator k) = 4
field_number (answer.Identifier k) = 5
field_number (answer.Date k) = 6
field_number (answer.Number k) = 7
field_number (answer.Bank k) = 8
field_number (answer.Account k) = 9
field_number (answer.DebitDate k) = 10
field_number (answer.Purpose k) = 11
field_number (answer.Name k) = 12
field_number (answer.Remark k) = 13
field_number (answer.ItemNumber k) = 14
field_number (answer.Amount k) = 15
field_number (answer.CustomerId k) = 16
field_number (answer.Address k) = 17
field_number (answer.Owner k) = 18
field_number (answer.DueDate k) = 19

-- the words for fields by their numbers, none for 0; after those that an answer names, four that none does (01, Records; 002, 2.1)
unfoldable pub field_words : List (List ℕ)
field_words =
    []
    ∷ ascii "type" ∷ ascii "message type" ∷ ascii "duplicate code" ∷ ascii "initiator" ∷ ascii "identifier" ∷ ascii "date"
    ∷ ascii "number" ∷ ascii "bank" ∷ ascii "account" ∷ ascii "debit date" ∷ ascii "purpose" ∷ ascii "name" ∷ ascii "remark"
    ∷ ascii "item number" ∷ ascii "amount" ∷ ascii "customer id" ∷ ascii "address" ∷ ascii "account owner"
    ∷ ascii "due date" ∷ ascii "credit date" ∷ ascii "item count" ∷ ascii "sum" ∷ ascii "notification date"
    ∷ []

-- the field that an answer names, in words
abbrev pub answer_field : Answer → List ℕ
answer_field a = get_or field_words (field_number a) []

-- the words for the kinds of fault by their numbers, none for 0 (01, Calls and their answers; 02 #102); the twelfth is the one condition that only
-- docs/ has, the last four tell a clerk which characters of an account to retype
unfoldable pub kind_words : List (List ℕ)
kind_words =
    []
    ∷ ascii "a letter that text may not hold" ∷ ascii "not the right mark" ∷ ascii "wrong form" ∷ ascii "not digits"
    ∷ ascii "check digit" ∷ ascii "no date" ∷ ascii "outside the days" ∷ ascii "not listed" ∷ ascii "already known"
    ∷ ascii "blank or zero" ∷ ascii "out of order" ∷ ascii "more than ten days after the date"
    ∷ ascii "wrong form in the first eight, retype the eight characters after the bank"
    ∷ ascii "wrong form in the last eight, retype the last eight characters"
    ∷ ascii "check digit over eight, retype the eight characters after the bank"
    ∷ ascii "check digit over sixteen, retype the sixteen characters after the bank"
    ∷ []

-- a kind of fault, in words
abbrev pub kind_word : Kind → List ℕ
kind_word k = get_or kind_words (kind_number k) []
