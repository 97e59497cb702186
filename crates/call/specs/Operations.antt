-- Document 01, One call and Charging: what Period over and the operations do, Request report apart.
use Rattle.std.specs.Prelude.{◌+◌, Bool, not, cond, ◌&&◌, ◌||◌, eqb, Option, Some, None}
use Rattle.forms.specs.Profile.{is_release}
use Rattle.forms.specs.Units.{tenths_of}
use Rattle.call.specs.Types.{Leg, Tenths, Seconds, PointSet, Charge, LegState, Number, Record, Reports, Stepped}
use Rattle.forms.specs.declared.item.Leg.TheVariants.{One, Two}
use Rattle.call.specs.declared.record.Presence.TheVariants.{Present}
use Rattle.call.specs.declared.stages.Stage.TheVariants.{Analysing}
use Rattle.call.specs.declared.record.Hold.TheVariants as hold
use Rattle.call.specs.Armings.{no_armings}
use Rattle.call.specs.Charging.{granted, report_of}
use Rattle.call.specs.Record.{leg, no_charge, is_present, is_held, is_trigger, no_timer, timed, staged, with_legs, leg_at, with_leg, armed_as, numbered}
use Rattle.call.specs.Answers.{reports, silent, goes_on, quietly, ended}

-- ---- routing: "deadline = time + kept timer × 10, used once (002), else the profile's default × 10" (TNRy)

abbrev pub after : Tenths → Seconds → Tenths
after t s = record { 0 = t.0 + (tenths_of s).0 }

abbrev pub route_timer : Record → Seconds
route_timer r = cond (eqb r.kept.0 0) r.timer r.kept

abbrev pub routed : PointSet → Record → Tenths → Stepped
routed dp r t = goes_on dp (armed_as r r.armings no_timer) silent (Some (after t (route_timer r)))

-- ---- "Continue: over if a leg is absent, else resumes"; routing starts "at Continue (or Abort resuming) from a hold at 2"

abbrev pub resumed : Record → Tenths → Record
resumed r t = staged (timed r t) r.stage hold.None

unfoldable pub continued : PointSet → Record → Tenths → Stepped
continued dp r t =
    cond (is_present r.leg1 && is_present r.leg2)
    (cond (is_trigger r.hold) (routed dp (resumed r t) t) (quietly dp (resumed r t)))
    (ended r None t)

-- ---- "Connect: … leg 2 is present again, stage analysing, number replaced, the hold ends"

-- "held at 2, or leg 2 absent with leg 1 present"
abbrev pub can_connect : Record → Bool
can_connect r = is_trigger r.hold || (is_present r.leg1 && not (is_present r.leg2))

abbrev pub connected : Record → Number → Tenths → Record
connected r n t = numbered (with_legs (staged (timed r t) Analysing hold.None) (leg_at One r) (leg Present (leg_at Two r).charge)) n

-- ---- "Abort: all armings, charges and the kept timer dropped unreported; default release: over; else as Continue if held"

abbrev pub uncharged : LegState → LegState
uncharged l = leg l.presence no_charge

abbrev pub dropped : Record → Record
dropped r = armed_as (with_legs r (uncharged (leg_at One r)) (uncharged (leg_at Two r))) no_armings no_timer

unfoldable pub aborted : PointSet → Record → Tenths → Stepped
aborted dp r t =
    cond (is_release r.handling) (ended (dropped r) None t)
    (cond (is_held r.hold) (continued dp (dropped r) t) (quietly dp (timed (dropped r) t)))

-- ---- charging

-- the charge of the leg l becomes c, the last time t
abbrev pub charged : Record → Leg → Charge → Tenths → Record
charged r l c t = with_leg l (timed r t) (leg (leg_at l r).presence c)

abbrev pub report_on : Leg → Option Tenths → Reports
report_on One c = reports None c None
report_on Two c = reports None None c

-- "reported and removed when Period over is accepted"
abbrev pub period_over : PointSet → Record → Leg → Tenths → Stepped
period_over dp r l t = goes_on dp (charged r l no_charge t) (report_on l (report_of t (leg_at l r).charge)) None

abbrev pub charge_applied : PointSet → Record → Leg → Tenths → Tenths → Stepped
charge_applied dp r l period t = quietly dp (charged r l (granted r.stage period t) t)
