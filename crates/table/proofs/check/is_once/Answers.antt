use Rattle.std.proofs.Common.{sym, ◌∙◌, arith, rules}
use Rattle.table.proofs.CheckLaws.{among_behind, searched_none, searched_on, searched_twice}
use Rattle.table.proofs.check.is_once.Goals as goal
use Rattle.table.proofs.check.is_once.Goals.{else-seen-h-via-then-seen-h+else-contains, else-seen-h-via-else-seen-h}

pub loop-i-init : goal.loop-i-init
loop-i-init c = searched_none c.args.l.now _ (search rules)

pub returns-then-contains : goal.returns-then-contains
returns-then-contains c =
    let s = c.loop-i.invariant in
    sym (searched_twice s (omega arith) (among_behind s (omega arith) _ ∙ sym c.contains.ensures.value ∙ c.if-contains.true))

pub loop-i-preserved : goal.loop-i-preserved
loop-i-preserved c =
    let s = c.loop-i.invariant in
    elim c.else-seen-h.branch [
      | else-seen-h-via-then-seen-h+else-contains w ↦ searched_on s (omega arith) (among_behind s (omega arith) _ ∙ sym w.contains.ensures.value ∙ w.if-contains.false)
      | else-seen-h-via-else-seen-h w ↦ searched_on s (omega arith) (s.unmarked _ w.if-seen-h.false)
    ]
