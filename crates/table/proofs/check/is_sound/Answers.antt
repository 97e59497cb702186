use Rattle.std.proofs.Common.{sym, ◌∙◌, arith, length-set}
use Rattle.table.proofs.CheckLaws.{check_stop, check_free, check_call}
use Rattle.table.proofs.check.is_sound.Goals as goal
use Rattle.table.proofs.check.is_sound.Goals.{in-Some, in_default}

pub returns-then-not-is_sound_slot : goal.returns-then-not-is_sound_slot
returns-then-not-is_sound_slot c =
    let l = c.loop-slot in
    sym (l.invariant.left ∙ check_stop c.args.table.now l.calls l.n l.slot-index _ (omega arith) (sym c.is_sound_slot.ensures ∙ c.if-not-is_sound_slot.true))

pub loop-slot-preserved : goal.loop-slot-preserved
loop-slot-preserved c =
    let l = c.loop-slot in
    let e = sym c.is_sound_slot.ensures ∙ c.if-not-is_sound_slot.false in
    elim c.match-slot.branch [
      | in-Some w ↦ record {
        few = omega arith;
        size = rw w.calls-is (simp length-set l.invariant.size);
        left = rw (w.calls-is, w.n-is) (l.invariant.left ∙ check_call c.args.table.now l.calls l.n l.slot-index _ (omega arith) _ e w.in-Some.is (omega arith));
      }
      | in_default w ↦ record {
        few = omega arith;
        size = rw w.calls-is l.invariant.size;
        left = rw (w.calls-is, w.n-is) (l.invariant.left ∙ check_free c.args.table.now l.calls l.n l.slot-index _ (omega arith) e w.in_default.is);
      }
    ]
