use Rattle.std.proofs.Common.{[], lit<, le_of_lt, drop_of_length-le}
use Rattle.forms.specs.Item.{read_item_at}
use Rattle.forms.proofs.ItemLaws.{read_short}
use Rattle.forms.proofs.item.read_item_at.Goals as goal

-- past the end there are no bytes, and they are no item
pub returns-then-s-a : goal.returns-then-s-a
unfolding read_item_at
returns-then-s-a c = rw (drop_of_length-le _ (le_of_lt c.if-s-a.true), read_short [] (lit< tt))
