use Rattle.std.proofs.Common.{◌≡◌, drop}
use Rattle.call.specs.Roles.{roles}
use Rattle.call.specs.Armings.{disarmed}
use Rattle.call.specs.Points.{set_of, picked, is_on_leg, on_leg}
use Rattle.call.proofs.points.without_leg.Given as goal

-- the roles that are left on the leg are still to be disarmed
abbrev pub invariant-loop-p : goal.invariant-loop-p
invariant-loop-p l = disarmed (picked (λ p. is_on_leg (set_of l.bcsm) p l.leg) (drop l.p-index roles)) l.b ≡ disarmed (on_leg (set_of l.bcsm) l.leg) l.initial.b
