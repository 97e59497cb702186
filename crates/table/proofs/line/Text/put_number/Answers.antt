use Rattle.std.proofs.Common.{◌∙◌, arith}
use Rattle.table.proofs.LineLaws.{spelled}
use Rattle.table.proofs.line.Text.put_number.Goals as goal

pub returns : goal.returns
returns g c = spelled _ (c.as_bytes.ensures.value ∙ c.format.ensures.text) (omega arith) c.put.ensures
