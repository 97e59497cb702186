use Rattle.std.proofs.Common.{◌≡◌, length, drop}
use Rattle.call.specs.Armings.{strongest}
use Rattle.call.specs.declared.armings.Mode.TheVariants as mode
use Rattle.call.proofs.armings.strongest.Given as goal

-- the strongest so far, and the armings that are left
abbrev pub invariant-loop-x : goal.invariant-loop-x
invariant-loop-x l = (length l.x-items ≡ 10) × (strongest l.m (drop l.x-index l.x-items) ≡ strongest mode.None l.x-items)
