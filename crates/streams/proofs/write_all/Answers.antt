-- What a write took goes behind what was written before.
use Rattle.std.proofs.Common.{◌++◌, take, subst, sym, ap, ◌∙◌, rules}
use Rattle.std.specs.Io.KnownBytes.{Appends}
use Rattle.std.proofs.KnownBytes.{Appends-trans}
use Rattle.std.proofs.lemmas.List.{take_rest}
use lib.Seq.{take-add}
use Rattle.streams.proofs.write_all.Goals as goal

pub loop-done-preserved : goal.loop-done-preserved
loop-done-preserved g c =
    let all = c.args.bytes.now in
    let done = c.loop-done.done in
    let n = c.in-Ok.n in
    let joined = ap (λ l. take done all ++ take n l) (take_rest all done) ∙ sym (take-add done n all) in
    record {
      within = search rules;
      appended = subst (Appends _ _) joined (Appends-trans _ _ _ _ _ c.loop-done.invariant.appended c.in-Ok.ensures.bytes);
    }
