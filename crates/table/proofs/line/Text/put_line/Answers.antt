use Rattle.std.proofs.Common.{refl, arith}
use Rattle.table.specs.Line.{line_of}
use Rattle.table.proofs.LineLaws.{both, digits_put, spelled}
use Rattle.table.proofs.line.Text.put_line.Goals as goal

pub returns : goal.returns
unfolding line_of
returns g c = let p = both (digits_put (omega arith) c.put_number.ensures) (both c.put_answer.ensures c.put.ensures) in spelled 128 refl (omega arith) p
