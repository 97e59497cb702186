-- What `position` finds among the pairs.
use Rattle.std.proofs.Common.{sym, subst, le_of_lt, rules, tests}
use Rattle.std.proofs.lemmas.Iterator.{YieldsList-from_slice, YieldsList-from_zip}
use Rattle.std.proofs.lemmas.Iterator.Search.{position_from_yields_List}
use Rattle.forms.proofs.ComparisonLaws.{differs, Front, front_is}
use Rattle.forms.proofs.comparison.compare_front.Goals as goal

pub returns-in-Some : goal.returns-in-Some
returns-in-Some c =
    let a = c.args.stored.now in
    let d = c.args.dialled.now in
    let found = position_from_yields_List differs c.position.new.self _ c.position.result c.position.ensures.ran (YieldsList-from_zip (YieldsList-from_slice a cc) (YieldsList-from_slice d cc)) (λ x b q k. search (rules, tests)) in
    sym (subst (Front a d) c.in-Some.is (front_is a d (le_of_lt c.requires) _ found))

pub returns-in-None : goal.returns-in-None
returns-in-None c =
    let a = c.args.stored.now in
    let d = c.args.dialled.now in
    let found = position_from_yields_List differs c.position.new.self _ c.position.result c.position.ensures.ran (YieldsList-from_zip (YieldsList-from_slice a cc) (YieldsList-from_slice d cc)) (λ x b q k. search (rules, tests)) in
    sym (subst (Front a d) c.in-None.is (front_is a d (le_of_lt c.requires) _ found))
