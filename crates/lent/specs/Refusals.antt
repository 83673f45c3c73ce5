-- The refusals of the lists as rows, in their order (01, Calls and their answers; 02 #105).
-- Assumes nothing.
use Rattle.std.specs.Prelude.{not, List, [], ◌∷◌}
use Rattle.base.specs.Tables.{Row}
use Rattle.lists.specs.Banks.{is_bank_list, is_barred_list}
use Rattle.lists.specs.Known.{is_known_list}
use Rattle.lent.specs.Lent.{Lists}

-- 2: not strictly ascending, or a number over 99,999,999; 3: the length isn't a multiple of 25; 15: not strictly ascending, or a number over 999
abbrev pub list_refusals : Lists → List Row
list_refusals l = (2, not (is_bank_list l.banks)) ∷ (3, not (is_known_list l.known)) ∷ (15, not (is_barred_list l.barred)) ∷ []
