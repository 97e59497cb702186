use Rattle.std.proofs.Common.{◌≡◌, ◌≤◌, ◌&&◌, nat_eq, length, drop}
use Rattle.call.specs.Record.{places}
use Rattle.call.specs.Range.{places_in_range}
use Rattle.call.proofs.range.no_places.Given as goal

-- the empty ones so far, and the places that are left
abbrev pub invariant-loop-d : goal.invariant-loop-d
invariant-loop-d l = (l.empty ≤ l.d-index) × (length l.d-items ≡ places) × ((nat_eq l.empty l.d-index && places_in_range 0 (drop l.d-index l.d-items)) ≡ places_in_range 0 l.d-items)
