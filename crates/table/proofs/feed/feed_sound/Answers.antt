use Rattle.std.proofs.Common.{◌≡◌, sym, ◌∙◌, rules}
use Rattle.std.specs.Prelude.{Err}
use Rattle.table.proofs.Ours.{fed_stays}
use Rattle.table.proofs.ServeLaws.{served_read, refused_early}
use Rattle.table.proofs.feed.feed_sound.Goals as goal

pub returns-in_err-opening : goal.returns-in_err-opening
returns-in_err-opening c =
    let t = c.args.table.now in
    let x = c.args.item.now in
    let p = c.args.profile.now in
    let r : c.from_residual-in_err-opening.result ≡ Err c.in_err-opening.field-0.0 = search rules in
    fed_stays t _ x p _ c.requires (rw r (refused_early t x p _ _ (sym c.read_item.ensures ∙ c.in_ok-read.was) _ (rw (← c.from-rest.ensures, ← c.early_of.ensures) (c.in_err-opening.was))))

pub returns : goal.returns
returns c =
    let t = c.args.table.now in
    let x = c.args.item.now in
    let p = c.args.profile.now in
    fed_stays t _ x p _ c.requires
    (c.serve_item.ensures ∙ rw c.from-rest.ensures (served_read t x p c.requires _ _ (sym c.read_item.ensures ∙ c.in_ok-read.was) _ (rw (← c.from-rest.ensures, ← c.early_of.ensures) (c.in_ok-opening.was))))
