-- Each turn reads at least a byte more.
use Rattle.std.proofs.Common.{◌≤◌, ◌-◌}
use Rattle.listing.proofs.input.Input.find_profile.Given as goal

abbrev pub invariant-loop-self : goal.invariant-loop-self
invariant-loop-self l = l.end ≤ 32768

abbrev pub decreases-loop-self : goal.decreases-loop-self
decreases-loop-self l = 32768 - l.end
