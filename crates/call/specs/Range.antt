-- Document 01, The call table: what is in range of a record (the record's part of refusal 3).
use Rattle.std.specs.Prelude.{ℕ, zero, suc, Bool, true, not, ◌&&◌, ◌||◌, List, [], ◌∷◌, leb, eqb}
use Rattle.forms.specs.Fields.{nature, digit_count, is_digit}
use Rattle.forms.specs.Units.{is_clock_reading, is_period, is_timer, is_default_timer}
use Rattle.forms.specs.Profile.{is_release}
use Rattle.call.specs.Types.{Tenths, PointSet, Clock, Charge, LegState, Arming, Hold, Number, Record}
use Rattle.call.specs.declared.roles.Role.TheVariants.{Moved}
use Rattle.call.specs.declared.record.Clock.TheVariants as clock
use Rattle.forms.specs.declared.item.Leg.TheVariants.{One, Two}
use Rattle.call.specs.declared.armings.Mode.TheVariants as mode
use Rattle.call.specs.declared.record.Hold.TheVariants as hold
use Rattle.call.specs.Roles.{is_analysing, roles, is_role, every}
use Rattle.call.specs.Armings.{is_mode, mode_at, nothing_armed}
use Rattle.call.specs.Points.{is_in, set_of}
use Rattle.call.specs.Record.{is_present, is_pending, is_held, is_originating, leg_at}

-- a period "as in Forms"; no "start later than last time". What a charge does not have is zero: period and start where none is pending, the start while it waits.
abbrev pub charge_in_range_as : Clock → Charge → Tenths → Bool
charge_in_range_as clock.None c last = eqb c.period.0 0 && eqb c.start.0 0
charge_in_range_as clock.Waiting c last = is_period c.period && eqb c.start.0 0
charge_in_range_as clock.Running c last = is_period c.period && leb c.start.0 last.0

abbrev pub charge_in_range : Charge → Tenths → Bool
charge_in_range c last = charge_in_range_as c.clock c last

-- "hold none, 2 or an armable point with its leg, 50 excepted"; of a terminating call "12 for the hold at 2 and 51 for 50" (T-04)
abbrev pub hold_in_range : PointSet → Hold → Bool
hold_in_range dp hold.None = true
hold_in_range dp hold.Trigger = true
hold_in_range dp (hold.At p) = is_in dp p && not (is_role p Moved)

-- "an arming none, 0 or 1 (50 never 0)": of a role that is no point of the call, none
abbrev pub armings_in_range : PointSet → List Arming → Bool
armings_in_range dp a = every (λ p. is_in dp p || is_mode (mode_at p a) mode.None) roles && not (is_mode (mode_at Moved a) mode.Interrupted)

-- "digit places past the called number's count zero"
unfoldable pub places_in_range : ℕ → List ℕ → Bool
places_in_range count [] = true
places_in_range zero (d ∷ ds) = eqb d 0 && places_in_range zero ds
places_in_range (suc count) (d ∷ ds) = is_digit d && places_in_range count ds

unfoldable pub number_in_range : Number → Bool
number_in_range n = (nature n.nature).in_range && (digit_count n.count).in_range && places_in_range n.count n.digits

-- "times below 2^48; kept timer 0..2047"; "all else as in Forms"
unfoldable pub in_range_of : PointSet → Record → Bool
in_range_of dp r =
    charge_in_range (leg_at One r).charge r.last && charge_in_range (leg_at Two r).charge r.last
    && is_clock_reading r.last && is_timer r.kept && is_default_timer r.timer && number_in_range r.number
    && (hold_in_range dp r.hold && armings_in_range dp r.armings)

abbrev pub record_in_range : Record → Bool
record_in_range r = in_range_of (set_of r.bcsm) r

-- ---- "A free record is blank: every field zero or none."

abbrev pub is_unused : LegState → Bool
is_unused l = not (is_present l.presence) && not (is_pending l.charge.clock) && eqb l.charge.period.0 0 && eqb l.charge.start.0 0

abbrev pub is_no_number : Number → Bool
is_no_number n = eqb n.nature 0 && eqb n.count 0 && places_in_range 0 n.digits

-- all but the armings and the called number
unfoldable pub are_fields_blank : Record → Bool
are_fields_blank r =
    is_analysing r.stage && is_unused (leg_at One r) && is_unused (leg_at Two r) && not (is_held r.hold) && eqb r.last.0 0
    && eqb r.kept.0 0 && eqb r.timer.0 0 && not (is_release r.handling) && is_originating r.bcsm

unfoldable pub is_blank : Record → Bool
is_blank r = are_fields_blank r && nothing_armed r.armings && is_no_number r.number
