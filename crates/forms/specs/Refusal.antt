-- Document 01, Numbered refusals, and document 02's fifteenth (T-02): what each is called in the code, and its number.
use Rattle.std.specs.Prelude.{ℕ}
use Rattle.forms.specs.declared.refusal.Refusal.{Refusal}
use Rattle.forms.specs.declared.refusal.Refusal.TheVariants.{MalformedItem, MalformedProfile, DamagedTable, CallNotOpen, CallOpen, TableFull, EarlierTime, NoControl, Held, NotHeld, BadEntry, Impossible, ChargePending, PeriodNotOver, FeederClosed}

abbrev pub number_of : Refusal → ℕ
-- "item malformed"; "profile malformed (Setup)"
number_of MalformedItem = 1
number_of MalformedProfile = 2
-- "table not 64 records, a field out of range, a free record not blank, start later than last time, or one call twice"
number_of DamagedTable = 3
-- "call not open (all but Setup)"; "call already open (Setup)"; "64 open (Setup)"
number_of CallNotOpen = 4
number_of CallOpen = 5
number_of TableFull = 6
-- "time before the call's last"
number_of EarlierTime = 7
-- "operation without control; for 25 and 26, without any relationship"
number_of NoControl = 8
-- "event while held, but for Clear of leg 1" (T-05: of either leg); "Continue or Connect, not held"
number_of Held = 9
number_of NotHeld = 10
-- "entry with unknown leg and point, bad mode or timer, or a pair named twice"
number_of BadEntry = 11
-- "not possible at this stage or with these legs; Period over with no started charge; Apply charging with its leg or leg 1 absent"
number_of Impossible = 12
-- "charge already pending on that leg"; "Period over before start + period"
number_of ChargePending = 13
number_of PeriodNotOver = 14
-- T-02: "feeder stopped, or handed in holding a length outside 14..65 or a whole item's bytes or more"
number_of FeederClosed = 15
