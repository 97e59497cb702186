use Rattle.std.proofs.Common.{◌∙◌}
use Rattle.call.specs.Points.{set_of}
use Rattle.call.proofs.PointLaws.{leg_hit, leg_missed}
use Rattle.call.proofs.points.without_leg.Goals as goal
use Rattle.call.proofs.points.without_leg.Goals.{then-is_on_leg, else-is_on_leg}

pub loop-p-preserved : goal.loop-p-preserved
loop-p-preserved c = elim c.if-is_on_leg.branch [
  | then-is_on_leg w ↦
      let h = rw (c.is_on_leg.ensures, c.point_in.ensures) at w.if-is_on_leg.true in
      rw (w.b-is, w.place_of.ensures.0) (leg_hit (set_of c.args.bcsm) c.args.leg c.loop-p.p-index c.loop-p-test.true c.loop-p.b h ∙ c.loop-p.invariant)
  | else-is_on_leg w ↦
      let h = rw (c.is_on_leg.ensures, c.point_in.ensures) at w.if-is_on_leg.false in
      rw w.b-is (leg_missed (set_of c.args.bcsm) c.args.leg c.loop-p.p-index c.loop-p-test.true c.loop-p.b h ∙ c.loop-p.invariant)
]
