use Rattle.std.proofs.Common.{◌≡◌, ◌-◌, ◌&&◌, length, drop}
use Rattle.call.specs.Record.{places}
use Rattle.call.specs.Range.{places_in_range}
use Rattle.call.proofs.range.places_in_range.Given as goal

-- what was found so far, and the places that are left
abbrev pub invariant-loop-i : goal.invariant-loop-i
invariant-loop-i l = (length l.digits ≡ places) × ((l.ok && places_in_range (l.count - l.i) (drop l.i l.digits)) ≡ places_in_range l.count l.digits)
