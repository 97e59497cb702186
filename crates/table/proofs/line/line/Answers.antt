use Rattle.std.proofs.Common.{sym, ◌∙◌, rules}
use Rattle.table.proofs.LineLaws.{with_room, no_room}
use Rattle.table.proofs.line.line.Goals as goal

pub returns-then-not-has_room-clause-out_after : goal.returns-then-not-has_room-clause-out_after
returns-then-not-has_room-clause-out_after g c = no_room _ _ _ (sym c.has_room.ensures ∙ c.if-not-has_room.true)

pub returns-clause-out_after : goal.returns-clause-out_after
returns-clause-out_after g c = with_room _ (sym c.has_room.ensures ∙ c.if-not-has_room.false) c.put_line.ensures (search rules)
