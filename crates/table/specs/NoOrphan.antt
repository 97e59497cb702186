-- Beside the demands, no orphan (T-05): the customer has had dialogues that stay open with nobody in them. Said, as the demands are, of whatever keeps to `feed`'s contract; `no-orphan` in proofs/NoOrphan.antt proves it.
use Rattle.std.specs.Prelude.{ℕ, List, ◌≡◌, Some}
use Rattle.call.specs.Orphan.{NoOrphan}
use Rattle.table.specs.Types.{Record}
use Rattle.table.specs.Table.{look}
use Rattle.table.specs.Slot.{our_slots}
use Rattle.table.specs.Feed.{Turn}
use Rattle.table.specs.Demands.{Started, ending}

-- after any list of items from a fresh table, whether or not some are refused for room, no call's record is an orphan's
abbrev pub NoOrphans : Type 0
NoOrphans = (l : List Turn) → Started l → (k : ℕ) (r : Record) → look our_slots k (ending l) ≡ Some r → NoOrphan r
