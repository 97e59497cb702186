use Rattle.std.proofs.Common.{◌≡◌, drop, length}
use Rattle.call.specs.Armings.{disarmed}
use Rattle.call.proofs.armings.without.Given as goal

-- the roles that are left are still to be disarmed
abbrev pub invariant-loop-p : goal.invariant-loop-p
invariant-loop-p l = (length l.b ≡ 10) × (disarmed (drop l.p-index l.ps) l.b ≡ disarmed l.ps l.initial.b)
