-- Only for the code's shape: where an item's call stands in the table, or where a Setup may go, over `Table.find`.
use Rattle.std.specs.Prelude.{ℕ, ◌<◌, Bool, List, Option, None, Some, ⊤}
use Rattle.table.specs.Types.{Slot, Spot}
use Rattle.table.specs.declared.lookup.Spot.TheVariants.{Nowhere, Free, Own}
use Rattle.table.specs.Table.{find, is_free, owns}
use Rattle.table.specs.Slot.{our_slots}

-- the call's slot and the lowest free one, as `Table.serve` takes them
abbrev pub spot_of : Option ℕ → Option ℕ → Spot
spot_of (Some i) free = Own i
spot_of None (Some i) = Free i
spot_of None None = Nowhere

abbrev pub locate_of : ℕ → List Slot → Spot
locate_of k t = spot_of (find (owns our_slots k) t) (find (is_free our_slots) t)

-- the slots that have an owner: the free ones, or a call's
abbrev pub is_of : Option ℕ → Slot → Bool
is_of None = is_free our_slots
is_of (Some k) = owns our_slots k

-- the place that the spot names lies below n
abbrev pub IsBelow : ℕ → Spot → Type 0
IsBelow n Nowhere = ⊤
IsBelow n (Free i) = i < n
IsBelow n (Own i) = i < n
