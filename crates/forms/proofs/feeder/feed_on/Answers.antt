-- What is held and what is taken of the chunk fit in an item.
use Rattle.forms.specs.declared.feeder.Taken.TheVariants as T
use Rattle.forms.proofs.FeederLaws.{takes_as}
use Rattle.forms.proofs.feeder.feed_on.Goals as goal

pub join-requires : goal.join-requires
join-requires c = rw c.bytes-h.ensures (takes_as c.args.f c.args.chunk.now c.requires T.Unfinished c.in-Unfinished.is)

pub complete-requires : goal.complete-requires
complete-requires c =
    rw (c.part_of.ensures, c.bytes-h.ensures) (takes_as c.args.f c.args.chunk.now c.requires (T.Whole _) c.in-Whole.is).2
