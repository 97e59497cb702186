-- No orphan holds of whatever keeps to `feed`'s contract.
use mathlib.Core.List.{map}
use Rattle.call.specs.Orphan.{NoOrphan}
use Rattle.call.proofs.Orphan.{respond_keeps, open_keeps}
use Rattle.table.specs.Demands.{fed}
use Rattle.table.specs.NoOrphan.{NoOrphans}
use Rattle.table.proofs.Ours.{our_reached}
use Rattle.table.proofs.Demands.{its_end}

pub no_orphan : NoOrphans
no_orphan l s k r e = our_reached NoOrphan open_keeps respond_keeps (map fed l) k r (rw (its_end l s) at e)
