use Rattle.std.proofs.Common.{◌∙◌}
use Rattle.forms.proofs.ByteLaws.{leads_lem}
use Rattle.forms.proofs.bytes.leads.Goals as goal

pub returns : goal.returns
returns c = c.starts_with.ensures.value ∙ leads_lem c.args.a.now c.args.d.now
