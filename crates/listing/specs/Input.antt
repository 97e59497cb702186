-- When a listing reads on behind the bytes that a feeder holds. Each such read adds to them, and there is room for 65: so the reading ends.
use Rattle.std.specs.Prelude.{Bool, true, false, ◌&&◌, ℕ, List, length, ltb}
use Rattle.forms.specs.Feeder.{take_of}
use Rattle.forms.specs.declared.feeder.Feeder.{Feeder}
use Rattle.forms.specs.declared.feeder.Taken.{Taken}
use Rattle.forms.specs.declared.feeder.Taken.TheVariants as T

abbrev pub is_unfinished : Taken → Bool
is_unfinished T.Closed = false
is_unfinished (T.Bad n) = false
is_unfinished T.Unfinished = true
is_unfinished (T.Whole n) = false

-- the chunk is not the end of the input, and does not finish the item
unfoldable pub goes_on : Feeder → List ℕ → Bool
goes_on f c = ltb 0 (length c) && is_unfinished (take_of f c)
