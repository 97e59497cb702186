-- Document 01, Relationship: "after every accepted item: control if held or a mode 0 point is armed; else monitor if a mode 1 point is armed or a charge pending; else none". Computed from the record, never kept.
use Rattle.std.specs.Prelude.{Bool, true, false, cond, ◌||◌}
use Rattle.call.specs.Types.{Record, Relationship}
use Rattle.call.specs.declared.armings.Mode.TheVariants as mode
use Rattle.call.specs.declared.relationship.Relationship.TheVariants as relationship
use Rattle.call.specs.Armings.{some_armed}
use Rattle.call.specs.Record.{is_pending, is_held}

abbrev pub relationship_of : Record → Relationship
relationship_of r =
    cond (is_held r.hold || some_armed mode.Interrupted r.armings) relationship.Control
    (cond (some_armed mode.Notify r.armings || (is_pending r.clock1 || is_pending r.clock2)) relationship.Monitor
    relationship.None)

abbrev pub is_control : Relationship → Bool
is_control relationship.None = false
is_control relationship.Monitor = false
is_control relationship.Control = true

abbrev pub is_related : Relationship → Bool
is_related relationship.None = false
is_related relationship.Monitor = true
is_related relationship.Control = true
