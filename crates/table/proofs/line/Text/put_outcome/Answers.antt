use Rattle.table.proofs.LineLaws.{both}
use Rattle.table.proofs.line.Text.put_outcome.Goals as goal

pub returns : goal.returns
returns c = both c.put.ensures (both c.put_relationship.ensures (both c.put_suspension.ensures (both c.put_reports.ensures (both c.put_tenths.ensures c.put_over.ensures))))
