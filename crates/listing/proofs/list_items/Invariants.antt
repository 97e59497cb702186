-- The table stays sound.
use Rattle.std.proofs.Common.{◌≡◌, true}
use Rattle.table.specs.Feed.{is_sound_table}
use Rattle.listing.proofs.list_items.Given as goal

abbrev pub invariant-loop-number : goal.invariant-loop-number
invariant-loop-number l = is_sound_table l.slots ≡ true
