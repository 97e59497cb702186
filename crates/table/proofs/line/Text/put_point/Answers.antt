use Rattle.std.proofs.Common.{arith}
use Rattle.table.proofs.LineLaws.{both, digits_put}
use Rattle.table.proofs.line.Text.put_point.Goals as goal

pub returns : goal.returns
returns c = rw (← c.number.ensures) (both c.put.ensures (both (digits_put (omega arith) c.put_number.ensures) (both c.put-2.ensures (digits_put (omega arith) c.put_number-2.ensures))))
