-- Document 01, Numbered refusals: those that one call gives. First each row in the words of the table, with its number before them, then which rows each kind of item meets, in their order.
use Rattle.std.specs.Prelude.{ℕ, Bool, true, not, ◌&&◌, List, [], ◌∷◌, ltb}
use Rattle.forms.specs.Item.{item_in_range, item_of, is_item}
use Rattle.forms.specs.Profile.{profile_of, is_profile}
use Rattle.forms.specs.Units.{is_clock_reading}
use Rattle.call.specs.Types.{Leg, Item, Entry, Tenths, PointSet, Record, Event, Kind}
use Rattle.forms.specs.declared.refusal.Refusal.TheVariants.{MalformedItem, MalformedProfile, DamagedTable, CallOpen, EarlierTime, NoControl, Held, NotHeld, BadEntry, Impossible, ChargePending, PeriodNotOver}
use Rattle.call.specs.declared.kind.Kind.TheVariants as kind
use Rattle.call.specs.Charging.{is_before_end}
use Rattle.call.specs.Relationship.{relationship_of, is_control, is_related}
use Rattle.call.specs.Record.{is_present, is_pending, is_started, is_held, leg_at}
use Rattle.call.specs.Answers.{Row, row}
use Rattle.call.specs.Kind.{is_setup}
use Rattle.call.specs.Request.{entries_of, are_good, none_seen, are_possible}
use Rattle.call.specs.Events.{is_clear, role_of, can_meet}
use Rattle.call.specs.Operations.{can_connect}
use Rattle.call.specs.Range.{record_in_range}

-- 1: "item malformed": a value out of range; of the time alone
abbrev pub row1 : Item → List ℕ → Row
row1 i rest = row MalformedItem (not (item_in_range i rest))

abbrev pub row1_time : Tenths → Row
row1_time t = row MalformedItem (not (is_clock_reading t))

-- The early refusals: those that come before the table is looked at, in their order, which is this list's and not the numbers'. The item i with the bytes s of a profile;
-- whether it is malformed is said by who has it: bytes may be no item's, and a value out of range.
abbrev pub early_rows : Bool → Item → List ℕ → List Row
early_rows malformed i s =
    -- 1: "item malformed"; 2: "profile malformed (Setup)"
    row MalformedItem malformed
    ∷ row MalformedProfile (is_setup i && not (is_profile (profile_of s) s))
    ∷ []

-- those of an item's bytes
abbrev pub early_rows_in : List ℕ → List ℕ → List Row
early_rows_in item s = let i = item_of item in early_rows (not (is_item i item)) i s

-- 3: "a field out of range, … start later than last time": the record's part
abbrev pub row3 : Record → Row
row3 r = row DamagedTable (not (record_in_range r))

-- 5: "call already open (Setup)"
abbrev pub row5 : Row
row5 = row CallOpen true

-- 7: "time before the call's last"
abbrev pub row7 : Record → Tenths → Row
row7 r t = row EarlierTime (ltb t.0 r.last.0)

-- 8: "operation without control; for 25 and 26, without any relationship"
abbrev pub row8 : Record → Row
row8 r = row NoControl (not (is_control (relationship_of r)))

abbrev pub row8_any : Record → Row
row8_any r = row NoControl (not (is_related (relationship_of r)))

-- 9: "event while held, but for Clear of leg 1"; T-05: "9 excepts Clear of either leg"
abbrev pub row9 : Record → Event → Row
row9 r e = row Held (is_held r.hold && not (is_clear e))

-- 10: "Continue or Connect, not held"
abbrev pub row10 : Record → Row
row10 r = row NotHeld (not (is_held r.hold))

-- 11: "entry with unknown leg and point, bad mode or timer, or a pair named twice"
abbrev pub row11 : PointSet → List Entry → Row
row11 dp es = row BadEntry (not (are_good dp none_seen es))

-- 12: "not possible at this stage or with these legs": an event, an arming, a Connect; "Period over with no started charge"; "Apply charging with its leg or leg 1 absent"
abbrev pub row12 : Bool → Row
row12 possible = row Impossible (not possible)

-- 13: "charge already pending on that leg"
abbrev pub row13 : Record → Leg → Row
row13 r l = row ChargePending (is_pending (leg_at l r).charge.clock)

-- 14: "Period over before start + period"
abbrev pub row14 : Record → Leg → Tenths → Row
row14 r l t = row PeriodNotOver (is_before_end (leg_at l r).charge t)

-- the rows that an item meets which asks k of an open call at t; its entries stand in `rest`
abbrev pub rows_of : PointSet → Record → Kind → Tenths → List ℕ → List Row
rows_of dp r (kind.Setup s) t rest = row5 ∷ []
rows_of dp r (kind.Event e) t rest = row7 r t ∷ row9 r e ∷ row12 (can_meet dp r (role_of e r.stage)) ∷ []
rows_of dp r (kind.PeriodOver l) t rest = row7 r t ∷ row12 (is_started (leg_at l r).charge.clock) ∷ row14 r l t ∷ []
rows_of dp r (kind.RequestReport n) t rest = row7 r t ∷ row8 r ∷ row11 dp (entries_of n rest) ∷ row12 (are_possible dp r (entries_of n rest)) ∷ []
rows_of dp r kind.Continue t rest = row7 r t ∷ row8 r ∷ row10 r ∷ []
rows_of dp r (kind.Connect nature count) t rest = row7 r t ∷ row8 r ∷ row10 r ∷ row12 (can_connect r) ∷ []
rows_of dp r kind.Release t rest = row7 r t ∷ row8 r ∷ []
rows_of dp r (kind.ApplyCharging l period) t rest = row7 r t ∷ row8 r ∷ row12 (is_present r.leg1 && is_present (leg_at l r).presence) ∷ row13 r l ∷ []
rows_of dp r kind.ActivityTest t rest = row7 r t ∷ row8_any r ∷ []
rows_of dp r kind.Abort t rest = row7 r t ∷ row8_any r ∷ []
