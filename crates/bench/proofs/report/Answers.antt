-- A table that is sound stays so, however often it is fed.
use Rattle.std.proofs.Common.{◌≡◌, true, rules}
use denote.Param.Always.{mut_by}
use Rattle.table.specs.Feed.{is_sound_table}
use Rattle.bench.proofs.report.Goals as goal

pub count_refused-refused-requires-in-1 : goal.count_refused-refused-requires-in-1
count_refused-refused-requires-in-1 c = mut_by _ (λ x. is_sound_table x.0.now ≡ true) (λ s a i. search rules) (λ s a r t i e. search rules) _ c.fresh-slots.ensures.1
