use Rattle.std.proofs.Common.{rules, ◌≡◌, get_or, ◌∙◌, arith}
use Rattle.call.specs.Armings.{stronger, unarmed}
use Rattle.call.proofs.Laws.{strongest_step}
use Rattle.call.proofs.armings.strongest.Goals as goal

pub loop-x-preserved : goal.loop-x-preserved
loop-x-preserved c =
    let e : c.max-m.result ≡ stronger c.loop-x.m (get_or c.args.a c.loop-x.x-index unarmed).mode = search rules in
    (c.loop-x.invariant.0, rw e (strongest_step c.args.a c.loop-x.x-index c.loop-x.m (omega arith) ∙ c.loop-x.invariant.1))
