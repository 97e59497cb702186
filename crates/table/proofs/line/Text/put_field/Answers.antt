use Rattle.std.proofs.Common.{arith}
use Rattle.table.proofs.LineLaws.{both, digits_put}
use Rattle.table.proofs.line.Text.put_field.Goals as goal

pub returns : goal.returns
returns c = both c.put.ensures (digits_put (omega arith) c.put_number.ensures)
