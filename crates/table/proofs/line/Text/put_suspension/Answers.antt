use Rattle.std.proofs.Common.{arith}
use Rattle.table.proofs.LineLaws.{both, digits_put}
use Rattle.table.proofs.line.Text.put_suspension.Goals as goal

pub returns-in-Some : goal.returns-in-Some
returns-in-Some c = rw c.in-Some.is (both c.put-in-Some.ensures (digits_put (omega arith) c.put_number.ensures))
