use Rattle.std.proofs.Common.{◌≡◌, ◌-◌, ◌*◌, ◌&&◌, drop}
use Rattle.call.specs.Points.{set_of}
use Rattle.call.specs.Request.{are_good, none_seen, entries_of, are_possible}
use Rattle.call.proofs.refusals.entries_refusal.Given as goal

-- what was found so far, and the entries that are left
abbrev pub invariant-loop-i : goal.invariant-loop-i
invariant-loop-i l =
    (are_good (set_of l.bcsm) l.seen (entries_of (l.n - l.i) (drop (l.i * 5) l.t)) ≡ are_good (set_of l.bcsm) none_seen (entries_of l.n l.t))
    × ((l.possible && are_possible (set_of l.bcsm) l.r (entries_of (l.n - l.i) (drop (l.i * 5) l.t))) ≡ are_possible (set_of l.bcsm) l.r (entries_of l.n l.t))
