-- `items::item::fields_in` meets its contract: each field by its own test.
-- Assumes nothing.
use Rattle.items.specs.Items.{item_fields}
use Rattle.items.proofs.item.fields_in.Goals as goal

pub returns : goal.returns
unfolding item_fields
returns c =
    rw (
      c.type_found.ensures,
      c.place_found.ensures,
      c.due_in.ensures,
      c.amount_found.ensures,
      c.bank_found.ensures,
      c.account_found.ensures,
      c.found.ensures,
      c.is_blank_or_zero.ensures,
      c.found-2.ensures,
      c.is_blank_or_zero-2.ensures,
    )
