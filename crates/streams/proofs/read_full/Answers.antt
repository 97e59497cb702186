-- What a read gave goes behind what was filled before.
use Rattle.std.proofs.Common.{length, ◌-◌, subst, rules}
use Rattle.std.specs.Io.KnownBytes.{Consumes}
use Rattle.std.proofs.KnownBytes.{Consumes-trans}
use Rattle.streams.proofs.Parts.{take_more-put_mid}
use Rattle.streams.proofs.read_full.Goals as goal

pub loop-done-preserved : goal.loop-done-preserved
loop-done-preserved g c =
    let done = c.loop-done.done in
    let joined = take_more-put_mid done (length c.loop-done.buf - done) c.in-Ok.n c.loop-done.buf c.read.new.buf c.loop-done.invariant.within c.in-Ok.ensures.bound.0 in
    record {
      within = search rules;
      consumed = subst (Consumes _ _) joined (Consumes-trans _ _ _ _ _ c.loop-done.invariant.consumed c.in-Ok.ensures.bytes.0);
    }
