use Rattle.table.proofs.CheckLaws.{Searched}
use Rattle.table.proofs.check.is_once.Given as goal

-- the calls from here on are once there and marked
abbrev pub invariant-loop-i : goal.invariant-loop-i
invariant-loop-i l = Searched l.l l.seen l.i
