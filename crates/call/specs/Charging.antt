-- Document 01, Charging: a leg's pending charge (call period duration), its clock (Tcp) and its report (ApplyChargingReport). Both legs have the same rules.
use Rattle.std.specs.Prelude.{◌+◌, ◌-◌, min, Bool, false, cond, ltb, Option, Some, None}
use Rattle.call.specs.Types.{Tenths, Clock, Charge, Stage}
use Rattle.call.specs.declared.record.Clock.TheVariants as clock
use Rattle.call.specs.Roles.{is_active}
use Rattle.call.specs.Record.{no_time, waiting, running}

-- ---- the clock

-- "its clock starts at the first Answer after it was accepted, … and never restarts"
abbrev pub answered_as : Clock → Tenths → Charge → Charge
answered_as clock.None t c = c
answered_as clock.Waiting t c = running c.period t
answered_as clock.Running t c = c

abbrev pub answered : Tenths → Charge → Charge
answered t c = answered_as c.clock t c

-- "or at once when active": the charge that is accepted at t
abbrev pub granted : Stage → Tenths → Tenths → Charge
granted s period t = cond (is_active s) (running period t) (waiting period)

-- "before start + period"
abbrev pub is_before_end_as : Clock → Charge → Tenths → Bool
is_before_end_as clock.None c t = false
is_before_end_as clock.Waiting c t = false
is_before_end_as clock.Running c t = ltb t.0 (c.start.0 + c.period.0)

abbrev pub is_before_end : Charge → Tenths → Bool
is_before_end c t = is_before_end_as c.clock c t

-- ---- the report of a charge that is removed: "Elapsed = smaller of (time − start) and period, 0 if not started."

abbrev pub report_as : Clock → Tenths → Charge → Option Tenths
report_as clock.None t c = None
report_as clock.Waiting t c = Some no_time
report_as clock.Running t c = Some (record { 0 = min (t.0 - c.start.0) c.period.0 })

abbrev pub report_of : Tenths → Charge → Option Tenths
report_of t c = report_as c.clock t c
