use Rattle.std.proofs.Common.{◌≡◌, drop}
use Rattle.call.specs.Roles.{roles}
use Rattle.call.specs.Points.{set_of, point_in, is_pair, first_role, role_in}
use Rattle.call.proofs.points.role_in.Given as goal

-- the roles that are left have the first one
abbrev pub invariant-loop-p : goal.invariant-loop-p
invariant-loop-p l = first_role (λ p. is_pair (point_in (set_of l.bcsm) p) l.leg l.number) (drop l.p-index roles) ≡ role_in (set_of l.bcsm) l.leg l.number
