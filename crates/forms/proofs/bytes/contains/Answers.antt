use Rattle.std.proofs.Common.{◌∙◌}
use Rattle.forms.proofs.ByteLaws.{contains_lem}
use Rattle.forms.proofs.bytes.contains.Goals as goal

pub returns : goal.returns
returns c = c.contains.ensures.value ∙ contains_lem c.args.x c.args.t.now
