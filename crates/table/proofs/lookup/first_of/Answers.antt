use Rattle.std.proofs.Common.{◌∙◌, eqb, rules, tests}
use Rattle.std.proofs.lemmas.Iterator.{YieldsList-from_slice}
use Rattle.std.proofs.lemmas.Iterator.Search.{position_from_yields_List}
use Rattle.std.specs.Option.{option_eq}
use Rattle.table.proofs.LookupLaws.{found_place}
use Rattle.table.proofs.lookup.first_of.Goals as goal

pub returns-clause-place : goal.returns-clause-place
returns-clause-place c =
    position_from_yields_List (λ slot. option_eq eqb slot.owner c.args.wanted) _ _ c.position.result c.position.ensures.ran (YieldsList-from_slice c.args.table.now c.iter.ensures.rest) (λ x b q k. search (rules, tests))
    ∙ found_place c.args.wanted c.args.table.now
