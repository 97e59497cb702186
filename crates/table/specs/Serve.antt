-- Only for the code's shape: what an item that was read makes of the one slot that it may change, and of the table. (`Table.table_step` says it for the reader; ServeLaws proves them equal.)
use Rattle.std.specs.Prelude.{ℕ, false, cond, List, get_or, set, Option, None, Some, Ok, Err}
use Rattle.forms.specs.declared.refusal.Refusal.TheVariants.{DamagedTable, CallNotOpen, CallOpen, TableFull}
use Rattle.call.specs.Answers.{is_accepted, remains}
use Rattle.call.specs.Step.{respond_of}
use Rattle.call.specs.Setup.{early_of, set_up_of}
use Rattle.table.specs.Types.{Item, Answer, Stepped, Opening, Early, Slot, Spot}
use Rattle.table.specs.declared.lookup.Spot.TheVariants.{Nowhere, Free, Own}
use Rattle.table.specs.Slot.{blank_slot}
use Rattle.table.specs.Feed.{is_sound_table}
use Rattle.table.specs.Lookup.{locate_of}

-- call k's slot after an accepted item: that of a call that is over is free again
abbrev pub owner_after : ℕ → Answer → Option ℕ
owner_after k a = remains a None None (Some k)

abbrev pub slot_after : ℕ → Stepped → Slot
slot_after k s = record { owner = owner_after k s.answer; body = s.next }

-- stored in slot j where it was accepted
abbrev pub stored_at : List Slot → ℕ → ℕ → Stepped → Answer × List Slot
stored_at t j k s = (s.answer, cond (is_accepted s.answer) (set t j (slot_after k s)) t)

-- on a sound table, by where the item's call stands: a Setup with what its profile says ("64 open" is 6, "call already open" 5), or another item ("call not open" is 4)
abbrev pub served_at : Option Opening → Spot → List Slot → Item → List ℕ → Answer × List Slot
served_at (Some o) Nowhere t i rest = (Err TableFull, t)
served_at (Some o) (Free j) t i rest = stored_at t j i.call (set_up_of i rest o)
served_at (Some o) (Own j) t i rest = (Err CallOpen, t)
served_at None Nowhere t i rest = (Err CallNotOpen, t)
served_at None (Free j) t i rest = (Err CallNotOpen, t)
served_at None (Own j) t i rest = stored_at t j i.call (respond_of (get_or t j blank_slot).body i rest)

abbrev pub served_of : List Slot → Item → List ℕ → Option Opening → Answer × List Slot
served_of t i rest o = served_at o (locate_of i.call t) t i rest

-- on any table: refusal 3 comes after the early ones
abbrev pub fed_by : Early → List Slot → Item → List ℕ → Answer × List Slot
fed_by (Err n) t i rest = (Err n, t)
fed_by (Ok o) t i rest = cond (is_sound_table t) (served_of t i rest o) (Err DamagedTable, t)

abbrev pub fed_of : List Slot → Item → List ℕ → List ℕ → Answer × List Slot
fed_of t i rest profile = fed_by (early_of false i rest profile) t i rest
