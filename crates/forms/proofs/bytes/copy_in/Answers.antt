use Rattle.std.proofs.Common.{refl}
use Rattle.forms.proofs.ByteLaws.{copied}
use Rattle.forms.proofs.bytes.copy_in.Goals as goal

pub returns : goal.returns
returns c = copied c.args.d.now c.args.s.now _ c.args.at _ c.copy_from_slice.ensures.after refl c.requires
