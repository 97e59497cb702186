use Rattle.forms.proofs.ItemLaws.{fields_back, item_parts}
use Rattle.forms.proofs.write.put_item.Goals as goal

pub returns : goal.returns
returns c =
    let p = c.requires in
    rw (c.put_parts.ensures, c.part_of.ensures, c.from.ensures, c.head_of-head.ensures, p.0.1, p.0.0, fields_back c.args.item.body, item_parts c.args.item _)
