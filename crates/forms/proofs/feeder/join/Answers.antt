use Rattle.std.proofs.Common.{length-append}
use Rattle.forms.proofs.FeederLaws.{pad_both}
use Rattle.forms.proofs.feeder.join.Goals as goal

pub returns : goal.returns
returns c =
    let h = c.args.h.now in
    let s = c.args.c.now in
    rw (c.copy_in-2.ensures, c.copy_in.ensures, pad_both 65 h s c.requires, length-append h s)
