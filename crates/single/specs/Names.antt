-- The kind of fault that an answer names with its field (01, Calls and their answers).
-- Assumes nothing.
use Rattle.std.specs.Prelude.{Option, Some, None}
use Rattle.findings.specs.declared.Kind.{Kind}
use Rattle.findings.specs.declared.Answer.{Answer}
use Rattle.findings.specs.declared.Answer.TheVariants as named

-- none for an answer that names no field
abbrev pub kind_in : Answer → Option Kind
kind_in named.Accepted = None
kind_in (named.Refused r) = None
kind_in (named.Type k) = Some k
kind_in (named.MessageType k) = Some k
kind_in (named.DuplicateCode k) = Some k
kind_in (named.Initiator k) = Some k
kind_in (named.Identifier k) = Some k
kind_in (named.Date k) = Some k
kind_in (named.Number k) = Some k
kind_in (named.Bank k) = Some k
kind_in (named.Account k) = Some k
kind_in (named.DebitDate k) = Some k
kind_in (named.Purpose k) = Some k
kind_in (named.Name k) = Some k
kind_in (named.Remark k) = Some k
kind_in (named.ItemNumber k) = Some k
kind_in (named.Amount k) = Some k
kind_in (named.CustomerId k) = Some k
kind_in (named.Address k) = Some k
kind_in (named.Owner k) = Some k
kind_in (named.DueDate k) = Some k
