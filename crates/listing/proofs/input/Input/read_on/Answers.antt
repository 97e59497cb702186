-- A chunk that goes on leaves more bytes held.
use Rattle.std.proofs.Common.{◌≡◌, ℕ, ◌-◌, ◌<◌, List, true, length, refl, sym, ◌∙◌, arith, length-append}
use borrow.Author.Tests.{ltb-true}
use lib.Dec.{ltb}
use Rattle.forms.specs.Feeder.{bytes_of, take_of, feed_of}
use Rattle.forms.specs.declared.feeder.Feeder.{Feeder}
use Rattle.forms.specs.declared.feeder.Taken.{Taken}
use Rattle.forms.specs.declared.feeder.Taken.TheVariants as T
use Rattle.forms.proofs.ByteLaws.{and_left, and_right}
use Rattle.forms.proofs.FeederLaws.{takes_as, held_more}
use Rattle.listing.specs.Input.{is_unfinished, goes_on}
use Rattle.listing.proofs.input.Input.read_on.Goals as goal

unfinished : (t : Taken) → is_unfinished t ≡ true → t ≡ T.Unfinished
unfinished T.Closed e = cc
unfinished (T.Bad n) e = cc
unfinished T.Unfinished e = refl
unfinished (T.Whole n) e = cc

more_held : (f : Feeder) (c : List ℕ) → goes_on f c ≡ true → 66 - length (bytes_of (feed_of f c).feeder.held) < 66 - length (bytes_of f.held)
unfolding goes_on
more_held f c e =
    let u = unfinished (take_of f c) (and_right (ltb 0 (length c)) (is_unfinished (take_of f c)) e) in
    let l = ltb-true 0 (length c) (and_left (ltb 0 (length c)) (is_unfinished (take_of f c)) e) in
    rw (held_more f c u) (omega (arith, length-append (bytes_of f.held) c, takes_as f c refl T.Unfinished u))

pub loop-feeder-smaller : goal.loop-feeder-smaller
loop-feeder-smaller c =
    let f = c.loop-feeder.feeder in
    let e : goes_on f c.left-in-loop-feeder.result.now ≡ true = sym c.goes_on.ensures ∙ c.loop-feeder-test.true in
    rw (c.feed-in-loop-feeder.ensures, c.left-in-loop-feeder-2.ensures) (more_held f _ (rw c.left-in-loop-feeder.ensures at e))
