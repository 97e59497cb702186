-- Each step begins behind the one before.
use Rattle.std.proofs.Common.{length}
use Rattle.chunks.proofs.run_steps.Given as goal

abbrev pub decreases-loop-number : goal.decreases-loop-number
decreases-loop-number l = length l.rest
