-- Document 01, One call: an event meets a role; what is reported, disarmed and held, and whether the call is over. T-05 (the called party hangs up while the call is held) is in `is_clear`, `hold_after` and `ends_call`.
use Rattle.std.specs.Prelude.{Bool, true, false, not, cond, ◌&&◌, Option, Some, None}
use Rattle.call.specs.Types.{Leg, Tenths, Stage, Role, PointSet, Event, Mode, Hold, LegState, Record, Report, Stepped}
use Rattle.forms.specs.declared.item.Leg.TheVariants.{One, Two}
use Rattle.call.specs.declared.roles.Role.TheVariants.{MidCall, Disconnect1, Abandon, Moved, RouteFailure, Busy, NoAnswer, Answer, Disconnect2, Seized}
use Rattle.call.specs.declared.events.Event.TheVariants as event
use Rattle.call.specs.declared.armings.Mode.TheVariants as mode
use Rattle.call.specs.declared.record.Hold.TheVariants as hold
use Rattle.call.specs.declared.record.Presence.TheVariants.{Absent}
use Rattle.call.specs.declared.answers.Report.TheVariants as report
use Rattle.call.specs.Roles.{is_role, is_active, met_in, loses_leg, stage_after}
use Rattle.call.specs.Armings.{is_mode, mode_at, disarmed}
use Rattle.call.specs.Points.{point_in, is_in, leaves, disarms}
use Rattle.call.specs.Charging.{answered, report_of}
use Rattle.call.specs.Record.{leg, no_charge, is_present, is_held, made, leg_at}
use Rattle.call.specs.Answers.{reports, goes_on, ended}

-- ---- the nine events: kinds 2 to 8, and Clear by its leg

abbrev pub is_clear : Event → Bool
is_clear event.RouteFailure = false
is_clear event.Busy = false
is_clear event.NoAnswer = false
is_clear event.Seized = false
is_clear event.Answer = false
is_clear event.MidCall = false
is_clear event.Moved = false
is_clear (event.Clear l) = true

-- "Clear of leg 1 is Abandon before active, Disconnect when active"
abbrev pub clear_of : Leg → Stage → Role
clear_of One s = cond (is_active s) Disconnect1 Abandon
clear_of Two s = Disconnect2

-- the role that an event meets
abbrev pub role_of : Event → Stage → Role
role_of event.RouteFailure s = RouteFailure
role_of event.Busy s = Busy
role_of event.NoAnswer s = NoAnswer
role_of event.Seized s = Seized
role_of event.Answer s = Answer
role_of event.MidCall s = MidCall
role_of event.Moved s = Moved
role_of (event.Clear l) s = clear_of l s

-- ---- the hold, and the end of the call; h is the earlier hold

-- "The call is held exactly if the mode was 0 (moving any earlier hold)": moved by mode 0, else as it was. (T-05: a hold "stays" at a Clear of leg 2. In another mode than 0 a Clear of leg 1 ends the call, and no other event comes while held.)
abbrev pub hold_after : Role → Mode → Hold → Hold
hold_after p m h = cond (is_mode m mode.Interrupted) (hold.At p) h

-- "If a leg became absent and the mode was not 0, the call is over" (T-05: not by a Disconnect of leg 2 while held)
abbrev pub ends_call : Role → Mode → Hold → Bool
ends_call p m h = not (is_mode m mode.Interrupted) && loses_leg p && not (is_role p Disconnect2 && is_held h)

-- ---- a role is met

module _ (dp : PointSet) where
  -- "An event needs its leg present", and its stage; a role that is no point of the call is met at none
  abbrev pub can_meet : Record → Role → Bool
  can_meet r p = met_in p r.stage && is_in dp p && is_present (leg_at (point_in dp p).leg r).presence

  -- "report by its mode if armed (interrupting or notification; none if unarmed)" (EventReportBCSM)
  abbrev pub event_report : Role → Mode → Option Report
  event_report p mode.None = None
  event_report p mode.Interrupted = Some (report.Interrupting (point_in dp p))
  event_report p mode.Notify = Some (report.Notification (point_in dp p))

  -- a leg that becomes absent keeps no charge; Answer starts the clocks that wait
  abbrev pub leg_after : Role → Leg → Tenths → LegState → LegState
  leg_after p l t s =
      cond (leaves dp p l) (leg Absent no_charge) (leg s.presence (cond (is_role p Answer) (answered t s.charge) s.charge))

  -- a charge "is reported and removed … when the leg becomes absent"
  abbrev pub charge_after : Role → Leg → Tenths → LegState → Option Tenths
  charge_after p l t s = cond (leaves dp p l) (report_of t s.charge) None

  -- "then disarm, whether or not it was armed"
  abbrev pub met_record : Record → Role → Mode → Tenths → Record
  met_record r p m t =
      made r (stage_after p r.stage) (leg_after p One t (leg_at One r)) (leg_after p Two t (leg_at Two r)) (hold_after p m r.hold) t
      (disarmed (disarms dp p) r.armings) r.kept r.number

  abbrev pub meets_in : Record → Role → Mode → Tenths → Stepped
  meets_in r p m t =
      cond (ends_call p m r.hold) (ended r (event_report p m) t)
      (goes_on dp (met_record r p m t) (reports (event_report p m) (charge_after p One t (leg_at One r)) (charge_after p Two t (leg_at Two r))) None)

  unfoldable pub met : Record → Role → Tenths → Stepped
  met r p t = meets_in r p (mode_at p r.armings) t
