use Rattle.std.proofs.Common.{ap, replicate}
use Rattle.table.proofs.Ours.{made_fresh}
use Rattle.table.proofs.slot.fresh.Goals as goal

pub returns : goal.returns
returns c = made_fresh _ (ap (replicate 64) c.blank_slot.ensures)
