use Rattle.table.proofs.LineLaws.{both}
use Rattle.table.proofs.line.Text.put_reports.Goals as goal

pub returns : goal.returns
returns c = both c.put_event.ensures (both c.put_tenths.ensures c.put_tenths-2.ensures)
