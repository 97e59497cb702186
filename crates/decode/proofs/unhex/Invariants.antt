use Rattle.std.proofs.Common.{length}
use Rattle.decode.proofs.unhex.Given as goal

-- Each turn takes a blank or a pair.
abbrev pub decreases-loop-rest : goal.decreases-loop-rest
decreases-loop-rest l = length l.rest
