use Rattle.std.proofs.Common.{◌≡◌, ◌-◌, ◌*◌, drop}
use Rattle.call.specs.Points.{set_of}
use Rattle.call.specs.Request.{armed_with, entries_of}
use Rattle.call.proofs.request.arm_all.Given as goal

-- the entries that are left are armed as all are
abbrev pub invariant-loop-i : goal.invariant-loop-i
invariant-loop-i l = armed_with (set_of l.bcsm) l.s (entries_of (l.n - l.i) (drop (l.i * 5) l.t)) ≡ armed_with (set_of l.bcsm) l.initial.s (entries_of l.n l.t)
