-- Document 01, One call: the record of a call, and records with some fields replaced. (antt has no update of a record, so `made` lists the fields once.)
use Rattle.std.specs.Prelude.{ℕ, Bool, true, false, List, []}
use Rattle.forms.specs.Bytes.{pad}
use Rattle.call.specs.Types.{Leg, Tenths, Seconds, Presence, Clock, Charge, LegState, Stage, Role, Hold, Arming, Number, Bcsm, Record}
use Rattle.forms.specs.declared.item.Bcsm.TheVariants.{Originating, Terminating}
use Rattle.forms.specs.declared.item.Leg.TheVariants.{One, Two}
use Rattle.forms.specs.declared.profile.Handling.TheVariants.{Continue}
use Rattle.call.specs.declared.record.Presence.TheVariants.{Absent, Present}
use Rattle.call.specs.declared.record.Clock.TheVariants as clock
use Rattle.call.specs.declared.stages.Stage.TheVariants.{Analysing}
use Rattle.call.specs.declared.record.Hold.TheVariants as hold
use Rattle.call.specs.Roles.{is_role}
use Rattle.call.specs.Armings.{no_armings}

-- ---- a leg: absent or present, and its pending charge

abbrev pub leg : Presence → Charge → LegState
leg presence charge = record { presence = presence; charge = charge }

abbrev pub is_present : Presence → Bool
is_present Absent = false
is_present Present = true

-- "one pending charge per leg": none; waiting for the Answer, with its period; running, with its period and its start
abbrev pub charge : Clock → Tenths → Tenths → Charge
charge clock period start = record { clock = clock; period = period; start = start }

abbrev pub no_time : Tenths
no_time = record { 0 = 0 }

abbrev pub no_charge : Charge
no_charge = charge clock.None no_time no_time

abbrev pub waiting : Tenths → Charge
waiting period = charge clock.Waiting period no_time

abbrev pub running : Tenths → Tenths → Charge
running period start = charge clock.Running period start

abbrev pub is_pending : Clock → Bool
is_pending clock.None = false
is_pending clock.Waiting = true
is_pending clock.Running = true

abbrev pub is_started : Clock → Bool
is_started clock.None = false
is_started clock.Waiting = false
is_started clock.Running = true

-- ---- held (Waiting_For_Instructions): at the trigger, or at a met point

abbrev pub is_held : Hold → Bool
is_held hold.None = false
is_held hold.Trigger = true
is_held (hold.At p) = true

abbrev pub is_trigger : Hold → Bool
is_trigger hold.None = false
is_trigger hold.Trigger = true
is_trigger (hold.At p) = false

-- at the role's point
abbrev pub is_at : Role → Hold → Bool
is_at p hold.None = false
is_at p hold.Trigger = false
is_at p (hold.At q) = is_role q p

-- ---- the record

-- the kind of call (T-04), by which its points go: `Points.set_of`
abbrev pub is_originating : Bcsm → Bool
is_originating Originating = true
is_originating Terminating = false

abbrev pub no_timer : Seconds
no_timer = record { 0 = 0 }

-- the places for the called number's digits, which are at most 15
abbrev pub places : ℕ
places = 16

-- the called number: "digit places past the called number's count zero, as Setup and Connect leave them"
abbrev pub number_of : ℕ → ℕ → List ℕ → Number
number_of nature count digits = record { nature = nature; count = count; digits = pad places digits }

-- "A free record is blank: every field zero or none."
abbrev pub blank : Record
blank = record {
  last = no_time;
  period1 = no_time;
  start1 = no_time;
  period2 = no_time;
  start2 = no_time;
  kept = no_timer;
  timer = no_timer;
  armings = no_armings;
  number = number_of 0 0 [];
  stage = Analysing;
  hold = hold.None;
  handling = Continue;
  leg1 = Absent;
  leg2 = Absent;
  clock1 = clock.None;
  clock2 = clock.None;
  bcsm = Originating;
}

-- a leg lies in four fields of the record: it is taken out, and `made` puts it in
abbrev pub leg_at : Leg → Record → LegState
leg_at One r = leg r.leg1 (charge r.clock1 r.period1 r.start1)
leg_at Two r = leg r.leg2 (charge r.clock2 r.period2 r.start2)

-- all but the profile's defaults and the kind of call is given
abbrev pub made : Record → Stage → LegState → LegState → Hold → Tenths → List Arming → Seconds → Number → Record
made r stage one two hold last armings kept number = record {
  last = last;
  period1 = one.charge.period;
  start1 = one.charge.start;
  period2 = two.charge.period;
  start2 = two.charge.start;
  kept = kept;
  timer = r.timer;
  armings = armings;
  number = number;
  stage = stage;
  hold = hold;
  handling = r.handling;
  leg1 = one.presence;
  leg2 = two.presence;
  clock1 = one.charge.clock;
  clock2 = two.charge.clock;
  bcsm = r.bcsm;
}

-- the last time
abbrev pub timed : Record → Tenths → Record
timed r t = made r r.stage (leg_at One r) (leg_at Two r) r.hold t r.armings r.kept r.number

-- the stage and the point of suspension
abbrev pub staged : Record → Stage → Hold → Record
staged r stage hold = made r stage (leg_at One r) (leg_at Two r) hold r.last r.armings r.kept r.number

abbrev pub with_legs : Record → LegState → LegState → Record
with_legs r one two = made r r.stage one two r.hold r.last r.armings r.kept r.number

abbrev pub with_leg : Leg → Record → LegState → Record
with_leg One r l = with_legs r l (leg_at Two r)
with_leg Two r l = with_legs r (leg_at One r) l

-- the armings and the kept timer
abbrev pub armed_as : Record → List Arming → Seconds → Record
armed_as r armings kept = made r r.stage (leg_at One r) (leg_at Two r) r.hold r.last armings kept r.number

abbrev pub numbered : Record → Number → Record
numbered r n = made r r.stage (leg_at One r) (leg_at Two r) r.hold r.last r.armings r.kept n
