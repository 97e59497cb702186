-- Document 01, A call by itself and Triggering: a Setup opens a call.
use Rattle.std.specs.Prelude.{ℕ, Bool, true, false, not, List, [], ◌∷◌, Some, None, Ok, Err}
use Rattle.forms.specs.Item.{item_in_range}
use Rattle.forms.specs.Profile.{Profile, profile_of}
use Rattle.call.specs.Types.{Bcsm, Item, Setup, Handling, Tenths, Seconds, Hold, Number, Record, Check, Stepped, Opening, Early}
use Rattle.forms.specs.declared.refusal.Refusal.TheVariants.{CallNotOpen}
use Rattle.call.specs.declared.stages.Stage.TheVariants.{Analysing}
use Rattle.call.specs.declared.record.Presence.TheVariants.{Present}
use Rattle.call.specs.declared.record.Clock.TheVariants as clock
use Rattle.call.specs.declared.record.Hold.TheVariants as hold
use Rattle.call.specs.declared.answers.Report.TheVariants as report
use Rattle.call.specs.Armings.{no_armings}
use Rattle.call.specs.Points.{set_of}
use Rattle.call.specs.Record.{no_time, no_timer, number_of, blank}
use Rattle.call.specs.Answers.{first_of, reports, goes_on, refused, guarded}
use Rattle.call.specs.Trigger.{triggers}
use Rattle.call.specs.Operations.{routed}
use Rattle.call.specs.Kind.{kind_of, if_setup}
use Rattle.call.specs.Refusals.{row1_time, early_rows}

-- "stage analysing, both legs, held as Triggering says, last time the item's, nothing armed, no charge, no kept timer, the profile's defaults, the Setup's number"

abbrev pub opened : Bcsm → Seconds → Handling → Number → Hold → Tenths → Record
opened b timer handling number hold t = record {
  last = t;
  period1 = no_time;
  start1 = no_time;
  period2 = no_time;
  start2 = no_time;
  kept = no_timer;
  timer = timer;
  armings = no_armings;
  number = number;
  stage = Analysing;
  hold = hold;
  handling = handling;
  leg1 = Present;
  leg2 = Present;
  clock1 = clock.None;
  clock2 = clock.None;
  bcsm = b;
}

-- Triggering: "the call is held at point 2 and an interrupting report for 2, leg 1, goes out; otherwise it goes on with no relationship". "Routing starts at an untriggered Setup". T-04: of a terminating call "hold and report are then at 12, leg 1"
abbrev pub begun : Bcsm → Bool → Seconds → Handling → Number → Tenths → Stepped
begun b true timer handling number t =
    goes_on (set_of b) (opened b timer handling number hold.Trigger t) (reports (Some (report.Interrupting (set_of b).trigger)) None None) None
begun b false timer handling number t = routed (set_of b) (opened b timer handling number hold.None t) t

-- ---- in two steps, so that an owner of many calls can look at them in between

-- "held as Triggering says", "the profile's defaults": what the profile p says of a Setup
abbrev pub opening_of : Profile → Setup → List ℕ → Opening
opening_of p u dialled = record { triggered = triggers p u dialled; timer = p.timer; handling = p.handling }

-- the first early refusal of an item, with its digits and the bytes s of its profile; else what the profile of a Setup says
abbrev pub unless_early : Check → Early → Early
unless_early (Err n) e = Err n
unless_early (Ok _) e = e

unfoldable pub early_of : Bool → Item → List ℕ → List ℕ → Early
early_of malformed i rest s =
    unless_early (first_of (early_rows malformed i s))
    (if_setup (kind_of i.body) (λ u. Ok (Some (opening_of (profile_of s) u rest))) (Ok None))

-- 4: "call not open (all but Setup)"
abbrev pub not_open : Stepped
not_open = refused blank CallNotOpen

-- a Setup whose profile said o. (Of its ranges the time's alone is looked at: it is in range where no early refusal was given.)
unfoldable pub set_up_of : Item → List ℕ → Opening → Stepped
set_up_of i rest o =
    guarded (first_of (row1_time i.time ∷ [])) blank
    (if_setup (kind_of i.body) (λ u. begun u.bcsm o.triggered o.timer o.handling (number_of u.nature u.count rest) i.time) not_open)

-- any item where no call is open: a Setup opens one
abbrev pub opened_by : Item → List ℕ → Early → Stepped
opened_by i rest (Err n) = refused blank n
opened_by i rest (Ok (Some o)) = set_up_of i rest o
opened_by i rest (Ok None) = not_open

unfoldable pub open_of : Item → List ℕ → List ℕ → Stepped
open_of i rest s = opened_by i rest (early_of (not (item_in_range i rest)) i rest s)
