use Rattle.std.proofs.Common.{sym, ◌∙◌}
use Rattle.forms.proofs.ItemLaws.{rest_at_lem, item_in_range_lem}
use Rattle.forms.proofs.WriteLaws.{with_room, no_room, out_of_range}
use Rattle.forms.proofs.write.write_item.Goals as goal

pub returns-then-n-d : goal.returns-then-n-d
returns-then-n-d c =
    let a = c.args in
    let f = c.fixed_of-f.ensures in
    let n = sym c.rest_at.ensures.0 in
    let y = with_room a.item a.t.now a.d.now (item_in_range_lem a.item _ f _ ∙ sym c.item_in_range.ensures ∙ c.if-item_in_range.true) (rw (rest_at_lem a.item _ f, n) c.if-n-d.true) in
    (rw (rest_at_lem a.item _ f, n) at y.0, rw c.put_item.ensures y.1)

pub returns-else-n-d : goal.returns-else-n-d
returns-else-n-d c =
    let a = c.args in
    let f = c.fixed_of-f.ensures in
    no_room a.item a.t.now a.d.now (item_in_range_lem a.item _ f _ ∙ sym c.item_in_range.ensures ∙ c.if-item_in_range.true) (rw (rest_at_lem a.item _ f, sym c.rest_at.ensures.0) c.if-n-d.false)

pub returns-else-item_in_range : goal.returns-else-item_in_range
returns-else-item_in_range c =
    let a = c.args in
    out_of_range a.item a.t.now a.d.now (item_in_range_lem a.item _ c.fixed_of-f.ensures _ ∙ sym c.item_in_range.ensures ∙ c.if-item_in_range.false)
