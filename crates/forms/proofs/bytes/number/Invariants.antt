use Rattle.std.proofs.Common.{◌≡◌, ◌^◌, ◌<◌}
use Rattle.forms.specs.Bytes.{from_bytes}
use Rattle.forms.proofs.bytes.number.Given as goal

-- the number so far
abbrev pub invariant-loop-i : goal.invariant-loop-i
invariant-loop-i g l = (l.n ≡ from_bytes l.i l.s) × (l.n < 256 ^ l.i)
