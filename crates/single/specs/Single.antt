-- The answer on a single head or item of either kind of message (01, Calls and their answers; 02, #101).
-- Assumes nothing.
use Rattle.std.specs.Prelude.{ℕ, Bool, cond, List, [], ◌∷◌, ◌++◌, length, eqb}
use Rattle.base.specs.Bytes.{field}
use Rattle.calendar.specs.Calendar.{is_date}
use Rattle.lists.specs.Banks.{found_in}
use Rattle.lent.specs.Lent.{Lent, list_refused, by}
use Rattle.frame.specs.Records.{lengths}
use Rattle.findings.specs.declared.Kind.{Kind}
use Rattle.lent.specs.declared.Refusal.TheVariants.{NotADay, Malformed}
use Rattle.findings.specs.declared.Answer.{Answer}
use Rattle.findings.specs.declared.Answer.TheVariants as named
use Rattle.fields.specs.Fields.{letter_found}
use Rattle.findings.specs.Codes.{Ü, Rule, rule, always}
use Rattle.findings.specs.Naming.{first_named}
use Rattle.kinds.specs.Codes.{head_rules, item_rules}

-- the letters of a text field; the code of a bad one is 36 wherever it stands
abbrev pub letters : (Kind → Answer) → List ℕ → Rule
letters n s = rule n (always (Ü 36)) (letter_found s)

-- the text fields of a head, and of an item
unfoldable pub head_texts : List ℕ → List Rule
head_texts r = letters named.Name (field 70 104 r) ∷ letters named.Remark (field 105 174 r) ∷ []

unfoldable pub item_texts : List ℕ → List Rule
item_texts r =
    letters named.CustomerId (field 51 74 r)
    ∷ letters named.Name (field 75 109 r)
    ∷ letters named.Address (field 110 144 r)
    ∷ letters named.Owner (field 145 179 r)
    ∷ letters named.Remark (field 180 249 r)
    ∷ []

-- a bad letter comes first, then the fields in order; a head tells its kind itself, an item's comes with it
unfoldable pub head_answer : ℕ → (ℕ → Bool) → List ℕ → List ℕ → Answer
head_answer e is_listed known r = first_named (head_texts r ++ head_rules e is_listed known r)

unfoldable pub item_answer : ℕ → ℕ → (ℕ → Bool) → ℕ → List ℕ → Answer
item_answer kind e is_listed k r = first_named (item_texts r ++ item_rules kind e is_listed k r)

-- the answer, with the kind and the place of an item: refusals 1, 2, 3 and 10 in this order; its length tells a head from an item. It knows no
-- bar: the barred list that is lent to it is empty (02, #105)
unfoldable pub single_answer : Lent → ℕ → ℕ → List ℕ → Answer
single_answer l kind k r =
    cond (is_date l.day)
    (by (list_refused l.lists)
    (cond (eqb (length r) lengths.head)
    (head_answer l.day (found_in l.lists.banks) l.lists.known r)
    (cond (eqb (length r) lengths.item) (item_answer kind l.day (found_in l.lists.banks) k r) (named.Refused Malformed)))
    named.Refused)
    (named.Refused NotADay)
