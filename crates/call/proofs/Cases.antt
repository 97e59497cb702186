-- Computed cases of a call by itself: document 01's listing example, its edges P2 to P10 ('Both sides of each edge') as far as one call shows them, its five slips, and refusals at their order edges. Beside them P3, P4, P5, P9 and P10 of a terminating call, and the scenarios and readings of T-04 and, for both kinds of call, of T-05.
-- `runs` is a list of runs and the answer to the last item of each: the one statement over P1 to P10 takes it up.
use Prim.Native.Nat.{ℕ}
use Prim.Native.String.{String}
use mathlib.Core.Path.{◌≡◌, refl}
use mathlib.Core.Bool.{Bool, true, false}
use mathlib.Core.List.{List, [], ◌∷◌, ◌++◌, map, flatten}
use lib.ListN.{length, set}
use Rattle.std.specs.Prelude.{Option, Some, None, Ok, Err}
use Rattle.forms.specs.Bytes.{all, contains, leads, same}
use Rattle.forms.specs.Fields.{leg_number}
use Rattle.forms.specs.Item.{setup_of, item_bytes, item_in_range, rest_at, body_from, body_of, item_of, is_item, read_item, entry_bytes, entry_of}
use Rattle.forms.specs.Profile.{fields_of, profile_bytes, profile_in_range, numbers_at, numbers_end, view_at, profile_of, is_profile, some_matches}
use Rattle.forms.proofs.Cases.{p2}
use Rattle.forms.specs.declared.item.Bcsm.TheVariants.{Originating, Terminating}
use Rattle.forms.specs.declared.item.Leg.TheVariants.{One, Two}
use Rattle.forms.specs.declared.item.Body.TheVariants as B
use Rattle.call.specs.Types.{Bcsm, Body, Leg, Point, Tenths, Report, Reports, Relationship, Record, Answer}
use Rattle.call.specs.declared.relationship.Relationship.TheVariants as R
use Rattle.call.specs.declared.answers.Report.TheVariants.{Interrupting, Notification}
use Rattle.forms.specs.declared.refusal.Refusal.TheVariants.{MalformedItem, MalformedProfile, CallNotOpen, CallOpen, EarlierTime, NoControl, Held, NotHeld, BadEntry, Impossible, ChargePending, PeriodNotOver}
use Rattle.call.specs.Armings.{some_armed}
use Rattle.call.specs.Answers.{Pair, EventReport, Values, refusal, accepted, values_of, reports, silent}
use Rattle.call.specs.Trigger.{triggers}
use Rattle.call.specs.Request.{entries_of, are_good, are_possible, armed_with}
use Rattle.call.specs.Events.{met}
use Rattle.call.specs.Operations.{continued, aborted}
use Rattle.call.specs.Step.{respond_in}
use Rattle.call.specs.Setup.{early_of, set_up_of, open_of}
use Rattle.call.specs.Alone.{Input, alone_step}

-- ---- what a case is

-- a run of a call by itself: what it is fed before, the last item, and the answer to that
pub record Case : Type 0 where
  pub before : List Input
  pub last : Input
  pub answer : Answer

-- what is kept after a run, where k is kept at first
abbrev pub kept_by : Option Record → List Input → Option Record
kept_by k [] = k
kept_by k (f ∷ fs) = kept_by (alone_step k f.item f.profile).1 fs

abbrev pub last_answer : Case → Answer
last_answer c = (alone_step (kept_by None c.before) c.last.item c.last.profile).0

-- items one after the other, each with its answer: a case for each
infixr 70 ◌▸◌
abbrev ◌▸◌ : Input → Answer → Input × Answer
f ▸ a = (f, a)

abbrev along : List Input → List (Input × Answer) → List Case
along before [] = []
along before (x ∷ xs) = record { before = before; last = x.0; answer = x.1 } ∷ along (before ++ (x.0 ∷ [])) xs

-- ---- items of call 7

-- profiles with default timer 120: the listing example's; with default release; with 491 stored, of a sense; for four digits; for service 8; for forwarded calls
abbrev plain : List ℕ
plain = 0x00 ∷ 0x0A ∷ 0x01 ∷ 0x00 ∷ 0x78 ∷ 0x00 ∷ 0x00 ∷ 0x00 ∷ 0x00 ∷ 0x00 ∷ []

abbrev releasing : List ℕ
releasing = 0 ∷ 10 ∷ 1 ∷ 1 ∷ 120 ∷ 0 ∷ 0 ∷ 0 ∷ 0 ∷ 0 ∷ []

abbrev stored : ℕ → List ℕ
stored sense = 0 ∷ 15 ∷ 1 ∷ 0 ∷ 120 ∷ sense ∷ 1 ∷ 4 ∷ 3 ∷ 4 ∷ 9 ∷ 1 ∷ 0 ∷ 0 ∷ 0 ∷ []

abbrev four_digits : List ℕ
four_digits = 0 ∷ 11 ∷ 1 ∷ 0 ∷ 120 ∷ 1 ∷ 0 ∷ 1 ∷ 4 ∷ 0 ∷ 0 ∷ []

abbrev service8 : List ℕ
service8 = 0 ∷ 11 ∷ 1 ∷ 0 ∷ 120 ∷ 0 ∷ 0 ∷ 0 ∷ 1 ∷ 8 ∷ 0 ∷ []

abbrev forwarded : List ℕ
forwarded = 0 ∷ 10 ∷ 1 ∷ 0 ∷ 120 ∷ 0 ∷ 0 ∷ 0 ∷ 0 ∷ 1 ∷ []

-- the page's: number 5 of nature 3, enabling; service 5; forwarding inhibiting
abbrev service5 : List ℕ
service5 = 0x00 ∷ 0x0E ∷ 0x01 ∷ 0x00 ∷ 0x78 ∷ 0x01 ∷ 0x01 ∷ 0x03 ∷ 0x01 ∷ 0x05 ∷ 0x00 ∷ 0x01 ∷ 0x05 ∷ 0x02 ∷ []

abbrev item_with : List ℕ → ℕ → Body → List ℕ → Input
item_with profile t body rest = record { item = item_bytes (record { call = 7; time = record { 0 = t }; body = body }) rest; profile = profile }

abbrev item : ℕ → Body → Input
item t body = item_with plain t body []

-- Continue at 1000
abbrev go : Input
go = item 1000 B.Continue

abbrev setup : Bcsm → List ℕ → List ℕ → Input
setup b profile digits = item_with profile 1000 (B.Setup (setup_of b 4 0 false (length digits))) digits

-- to 4, of a service and forwarded or not
abbrev setup_for : Bcsm → List ℕ → ℕ → Bool → Input
setup_for b profile service forwarded = item_with profile 1000 (B.Setup (setup_of b 4 service forwarded 1)) (4 ∷ [])

abbrev connect : ℕ → Input
connect t = item_with plain t (B.Connect 4 2) (4 ∷ 6 ∷ [])

abbrev charge_at : ℕ → Leg → ℕ → Input
charge_at t leg period = item t (B.ApplyCharging leg (record { 0 = period }))

abbrev charge : Leg → ℕ → Input
charge = charge_at 1000

abbrev clear : ℕ → Leg → Input
clear t leg = item t (B.Clear leg 16)

-- an entry: point, leg, mode, timer
abbrev entry : ℕ → ℕ → ℕ → ℕ → List ℕ
entry point leg mode timer = entry_bytes (record { point = point; leg = leg; mode = mode; timer = record { 0 = timer } })

abbrev arm : ℕ → List (List ℕ) → Input
arm t es = item_with plain t (B.RequestReport (length es)) (flatten es)

-- ---- answers, as the listing shows them

-- a detection point, as the listing shows it; and an entry for it, without a timer
infixr 75 ◌╱◌
abbrev ◌╱◌ : ℕ → Leg → Point
number ╱ leg = record { leg = leg; number = number }

abbrev in_mode : Point → ℕ → List ℕ
in_mode q mode = entry q.number (leg_number q.leg) mode 0

abbrev ok : Relationship → Option Point → Reports → Option Tenths → Bool → Answer
ok relationship suspension reports deadline over = Ok (record { relationship = relationship; suspension = suspension; reports = reports; deadline = deadline; over = over })

abbrev elapsed : ℕ → Option Tenths
elapsed n = Some (record { 0 = n })

-- "ok control 2 r2/1", "ok control 2", "ok control 6 r6/2"
abbrev says : Relationship → Option Point → Option Report → Answer
says relationship suspension event = ok relationship suspension (reports event None None) None false

abbrev interrupts : Point → Answer
interrupts q = says R.Control (Some q) (Some (Interrupting q))

abbrev stays : Point → Answer
stays q = says R.Control (Some q) None

-- "held at point 2 and an interrupting report for 2, leg 1"; T-04: "hold and report are then at 12, leg 1"
abbrev trigger : Bcsm → Point
trigger Originating = 2 ╱ One
trigger Terminating = 12 ╱ One

abbrev triggered : Answer
triggered = interrupts (2 ╱ One)

abbrev at2 : Answer
at2 = stays (2 ╱ One)

abbrev at12 : Answer
at12 = stays (12 ╱ One)

-- "ok control - d1300"
abbrev routes : Relationship → ℕ → Answer
routes relationship t = ok relationship None silent (Some (record { 0 = t })) false

-- "ok none - c1=250 over"; "ok none - c2=600", "ok none - c2=123 over"; "ok none - n10/1 over"
abbrev bills1 : ℕ → Answer
bills1 n = ok R.None None (reports None (elapsed n) None) None true

abbrev bills2 : ℕ → Bool → Answer
bills2 n over = ok R.None None (reports None None (elapsed n)) None over

abbrev ends : Option Report → Answer
ends event = ok R.None None (reports event None None) None true

-- the values of answers, as the paper has them: "ok control 2 r2/1", "ok monitor - c1=100 d1300", "ok none - n10/1 c2=123 over", "refused 7"
abbrev pair : ℕ → ℕ → Pair
pair point leg = record { point = point; leg = leg }

abbrev told : String → Option Pair → Option EventReport → Option ℕ → Option ℕ → Option ℕ → Bool → Values
told relationship suspended event charge1 charge2 deadline over =
    accepted (record { relationship = relationship; suspended = suspended; event = event; charge1 = charge1; charge2 = charge2; deadline = deadline; over = over })

pub values :
    map values_of
    (triggered ∷ ok R.Monitor None (reports None (elapsed 100) None) (Some (record { 0 = 1300 })) false ∷ ok R.None None (reports (Some (Notification (10 ╱ One))) None (elapsed 123)) None true ∷ Err EarlierTime ∷ [])
    ≡ told "control" (Some (pair 2 1)) (Some (record { interrupting = true; met = pair 2 1 })) None None None false
    ∷ told "monitor" None None (Some 100) None (Some 1300) false
    ∷ told "none" None (Some (record { interrupting = false; met = pair 10 1 })) None (Some 123) None true
    ∷ refusal 7
    ∷ []
values = refl

-- ---- the runs

-- held at the trigger of a kind of call
abbrev begun : Bcsm → List Input
begun b = setup b plain (4 ∷ 9 ∷ 1 ∷ 5 ∷ []) ∷ []

abbrev held : List Input
held = begun Originating

-- period 600 on leg 2; answered at 5000 (P1)
abbrev granted : Bcsm → List Input
granted b = begun b ++ (charge Two 600 ∷ go ∷ [])

abbrev answered : Bcsm → List Input
answered b = granted b ++ (item 5000 B.Answer ∷ [])

-- ---- edges in a kind of call, whose points have the numbers given

-- P4 Period over at 5599 is 14, at 5600 reports 600
abbrev p4 : Bcsm → List Case
p4 b = along (answered b) (item 5599 (B.PeriodOver Two) ▸ Err PeriodNotOver ∷ item 5600 (B.PeriodOver Two) ▸ bills2 600 false ∷ [])

-- P5 Clear of leg 2 at 5123 reports 123, at 5700 reports 600
abbrev p5 : Bcsm → List Case
p5 b = along (answered b) (clear 5123 Two ▸ bills2 123 true ∷ []) ++ along (answered b) (clear 5700 Two ▸ bills2 600 true ∷ [])

-- P9 Busy leaves Abandon armed: Clear of leg 1 notifies it
abbrev p9 : Bcsm → ℕ → ℕ → List Case
p9 b busy abandon = along (begun b)
    (arm 1000 (entry busy 2 0 0 ∷ entry abandon 1 1 0 ∷ []) ▸ stays (trigger b) ∷ go ▸ routes R.Control 2200
    ∷ item 2000 (B.Busy 17) ▸ interrupts (busy ╱ Two) ∷ clear 2010 One ▸ ends (Some (Notification (abandon ╱ One))) ∷ [])

-- P10 timer 2047 accepted, 2048 is 11
abbrev p10 : Bcsm → ℕ → List Case
p10 b no_answer = along (begun b)
    (arm 1000 (entry no_answer 2 0 2048 ∷ []) ▸ Err BadEntry ∷ arm 1000 (entry no_answer 2 0 2047 ∷ []) ▸ stays (trigger b) ∷ go ▸ routes R.Control 21470 ∷ [])

-- T-04, leg of 16 and 51: Busy disarms the points of leg 2, and Connect follows. Are Moved and Mid-call, on this leg, among them?
abbrev follows : Bcsm → ℕ → ℕ → ℕ → ℕ → Relationship → List Case
follows b busy moved mid_call leg relationship = along (begun b)
    (arm 1000 (entry busy 2 0 0 ∷ entry moved leg 1 0 ∷ entry mid_call leg 1 0 ∷ []) ▸ stays (trigger b) ∷ go ▸ routes R.Control 2200
    ∷ item 2000 (B.Busy 17) ▸ interrupts (busy ╱ Two) ∷ connect 2010 ▸ routes relationship 3210 ∷ [])

-- T-05's `base`: held at Answer at 1100, charges of both legs since then
abbrev base : Bcsm → Point → List (List ℕ) → List Input
base b answer es = begun b ++ (arm 1000 (in_mode answer 0 ∷ es) ∷ charge One 600 ∷ charge Two 600 ∷ go ∷ item 1100 B.Answer ∷ [])

-- armed by these entries; answered at 1100, not held
abbrev talking : Bcsm → List (List ℕ) → List Input
talking b es = begun b ++ (arm 1000 es ∷ go ∷ item 1100 B.Answer ∷ [])

-- T-05, the called party hangs up while the call is held: the points of Answer, Mid-call and Seized, and the number of Disconnect
abbrev hangs_up : Bcsm → Point → Point → Point → ℕ → List Case
hangs_up b answer mid_call seized disconnect =
    -- its scenarios: unarmed, and a follow-on call; in mode 1, then Continue; in mode 0, then the caller hangs up too
    along (begun b)
    (arm 1000 (in_mode answer 0 ∷ in_mode (disconnect ╱ One) 1 ∷ in_mode mid_call 1 ∷ []) ▸ stays (trigger b)
    ∷ charge One 600 ▸ stays (trigger b)
    ∷ charge Two 600 ▸ stays (trigger b)
    ∷ go ▸ routes R.Control 2200
    ∷ item 1100 B.Answer ▸ interrupts answer
    ∷ connect 1150 ▸ Err Impossible
    ∷ clear 1200 Two ▸ ok R.Control (Some answer) (reports None None (elapsed 100)) None false
    ∷ clear 1200 Two ▸ Err Impossible
    ∷ connect 1220 ▸ routes R.Monitor 2420
    ∷ item 1300 B.Answer ▸ says R.Monitor None None
    ∷ clear 1350 Two ▸ bills1 250
    ∷ [])
    ++ along (base b answer (in_mode (disconnect ╱ Two) 1 ∷ []))
    (clear 1200 Two ▸ ok R.Control (Some answer) (reports (Some (Notification (disconnect ╱ Two))) None (elapsed 100)) None false ∷ item 1250 B.Continue ▸ bills1 150 ∷ [])
    ++ along (base b answer (in_mode (disconnect ╱ Two) 0 ∷ []))
    (clear 1200 Two ▸ ok R.Control (Some (disconnect ╱ Two)) (reports (Some (Interrupting (disconnect ╱ Two))) None (elapsed 100)) None false ∷ clear 1250 One ▸ bills1 150 ∷ [])
    -- "held, but not active": 12, at the trigger and at Seized
    ++ along (begun b) (clear 1000 Two ▸ Err Impossible ∷ [])
    ++ along (begun b ++ (arm 1000 (in_mode seized 0 ∷ []) ∷ go ∷ item 1100 B.Seized ∷ [])) (clear 1100 Two ▸ Err Impossible ∷ [])
    -- "leg 1 absent already": accepted, armed in mode 0 and unarmed; then modes 0 and 1 are 12, and no Connect
    ++ along (talking b (in_mode (disconnect ╱ One) 0 ∷ in_mode (disconnect ╱ Two) 0 ∷ []))
    (clear 1200 One ▸ interrupts (disconnect ╱ One) ∷ clear 1200 Two ▸ interrupts (disconnect ╱ Two) ∷ clear 1200 Two ▸ Err Impossible ∷ item 1200 B.Continue ▸ ends None ∷ [])
    ++ along (talking b (in_mode (disconnect ╱ One) 0 ∷ []) ++ (clear 1200 One ∷ []))
    (clear 1200 Two ▸ stays (disconnect ╱ One) ∷ arm 1200 (in_mode answer 0 ∷ []) ▸ Err Impossible ∷ arm 1200 (in_mode (disconnect ╱ Two) 1 ∷ []) ▸ Err Impossible
    ∷ connect 1200 ▸ Err Impossible ∷ arm 1200 (in_mode (disconnect ╱ Two) 2 ∷ []) ▸ stays (disconnect ╱ One) ∷ item 1200 B.Release ▸ ends None ∷ [])
    -- held at Mid-call it stays there; any point can be armed, a charge of leg 1 starts at once, one of leg 2 is 12; Abort ends the call unreported
    ++ along (talking b (in_mode mid_call 0 ∷ []))
    (item 1150 (B.MidCall 1) ▸ interrupts mid_call ∷ clear 1200 Two ▸ stays mid_call ∷ arm 1200 (in_mode answer 0 ∷ []) ▸ stays mid_call ∷ charge_at 1210 Two 30 ▸ Err Impossible ∷ charge_at 1210 One 30 ▸ stays mid_call
    ∷ item 1239 (B.PeriodOver One) ▸ Err PeriodNotOver ∷ item 1240 (B.PeriodOver One) ▸ ok R.Control (Some mid_call) (reports None (elapsed 30) None) None false
    ∷ charge_at 1240 One 30 ▸ stays mid_call ∷ item 1250 B.Abort ▸ ends None ∷ [])
    -- the points of leg 1 stay armed
    ++ along (base b answer (in_mode (disconnect ╱ One) 1 ∷ []) ++ (clear 1200 Two ∷ [])) (clear 1250 One ▸ ok R.None None (reports (Some (Notification (disconnect ╱ One))) (elapsed 150) None) None true ∷ [])
    -- the caller hangs up while held, in mode 1 and unarmed: "still over, with both charges"
    ++ along (base b answer (in_mode (disconnect ╱ One) 1 ∷ [])) (clear 1200 One ▸ ok R.None None (reports (Some (Notification (disconnect ╱ One))) (elapsed 100) (elapsed 100)) None true ∷ [])
    ++ along (base b answer []) (clear 1200 One ▸ ok R.None None (reports None (elapsed 100) (elapsed 100)) None true ∷ [])

abbrev pub runs : List Case
runs =
    -- the listing; line 2 is P2, line 3 is P3
    along []
    (setup Originating plain (4 ∷ 9 ∷ 1 ∷ 5 ∷ []) ▸ triggered
    ∷ record { item = p2; profile = plain } ▸ at2
    ∷ go ▸ routes R.Control 1300
    ∷ item 1300 B.NoAnswer ▸ interrupts (6 ╱ Two)
    ∷ item 1310 B.Release ▸ ends None
    ∷ item 1310 B.Continue ▸ Err CallNotOpen
    ∷ [])
    -- P3 with no kept timer: the default
    ++ along held (go ▸ routes R.None 2200 ∷ [])
    -- P4
    ++ p4 Originating
    -- P5
    ++ p5 Originating
    -- P6 stored 491 matches 4915 and 491, not 49
    ++ along [] (setup Originating (stored 1) (4 ∷ 9 ∷ 1 ∷ 5 ∷ []) ▸ triggered ∷ [])
    ++ along [] (setup Originating (stored 1) (4 ∷ 9 ∷ 1 ∷ []) ▸ triggered ∷ [])
    ++ along [] (setup Originating (stored 1) (4 ∷ 9 ∷ []) ▸ routes R.None 2200 ∷ [])
    -- P7 period 864000 accepted, 864001 and 0 malformed
    ++ along held (charge Two 864001 ▸ Err MalformedItem ∷ charge Two 0 ▸ Err MalformedItem ∷ charge Two 864000 ▸ at2 ∷ [])
    -- P8, what one call shows: no open call is 4, a Setup for an open call 5
    ++ along [] (item 1000 B.Answer ▸ Err CallNotOpen ∷ setup Originating plain (4 ∷ []) ▸ triggered ∷ setup Originating plain (4 ∷ []) ▸ Err CallOpen ∷ [])
    -- P9
    ++ p9 Originating 5 10
    -- P10
    ++ p10 Originating 6
    -- P3, terminating: no kept timer. (With one: T-04's first scenario.)
    ++ along (begun Terminating) (go ▸ routes R.None 2200 ∷ [])
    -- P4, terminating
    ++ p4 Terminating
    -- P5, terminating
    ++ p5 Terminating
    -- P9, terminating
    ++ p9 Terminating 13 18
    -- P10, terminating
    ++ p10 Terminating 14
    -- T-04's scenarios: a follow-on call; Answer disarms 27 and 15 (T-01's twin); the service alone triggers. (The third is P9, terminating.)
    ++ along []
    (setup Terminating plain (4 ∷ 9 ∷ 1 ∷ 5 ∷ []) ▸ interrupts (12 ╱ One)
    ∷ arm 1000 (entry 14 2 0 30 ∷ entry 13 2 0 0 ∷ entry 18 1 1 0 ∷ []) ▸ at12
    ∷ go ▸ routes R.Control 1300
    ∷ item 1050 B.Seized ▸ says R.Control None None
    ∷ item 1300 B.NoAnswer ▸ interrupts (14 ╱ Two)
    ∷ arm 1300 (entry 15 2 1 0 ∷ []) ▸ stays (14 ╱ Two)
    ∷ connect 1310 ▸ routes R.Monitor 2510
    ∷ item 1400 B.Answer ▸ says R.None None (Some (Notification (15 ╱ Two)))
    ∷ clear 1500 One ▸ ends None
    ∷ [])
    ++ along (begun Terminating)
    (arm 1000 (entry 27 2 1 0 ∷ entry 15 2 1 0 ∷ []) ▸ at12 ∷ go ▸ routes R.Monitor 2200 ∷ item 5000 B.Answer ▸ says R.None None (Some (Notification (15 ╱ Two))) ∷ [])
    ++ along [] (setup_for Terminating service5 5 false ▸ interrupts (12 ╱ One) ∷ [])
    ++ along [] (setup_for Terminating service5 6 false ▸ routes R.None 2200 ∷ [])
    ++ along [] (setup_for Originating service5 5 false ▸ routes R.None 2200 ∷ [])
    -- T-04's readings. "Route failure while held": 9, else 12, after an Abort too
    ++ along (begun Terminating) (item 1000 (B.RouteFailure 3) ▸ Err Held ∷ go ▸ routes R.None 2200 ∷ item 1000 (B.RouteFailure 3) ▸ Err Impossible ∷ [])
    ++ along (begun Terminating) (item 1000 B.Abort ▸ routes R.None 2200 ∷ item 1000 (B.RouteFailure 3) ▸ Err Impossible ∷ [])
    -- "leg of 16 and 51": leg 2
    ++ follows Terminating 13 51 16 2 R.None
    ++ follows Originating 5 50 8 1 R.Monitor
    -- "Connect": stays terminating; after it 15 may be met, 7 of leg 2 is 11
    ++ along (begun Terminating)
    (arm 1000 (entry 15 2 0 0 ∷ []) ▸ at12 ∷ connect 1000 ▸ routes R.Control 2200 ∷ arm 1000 (entry 7 2 0 0 ∷ []) ▸ Err BadEntry
    ∷ item 5000 B.Answer ▸ interrupts (15 ╱ Two) ∷ [])
    -- "the other kind's pairs": 11, before any 12
    ++ along (begun Terminating)
    (arm 1000 (entry 5 2 0 0 ∷ []) ▸ Err BadEntry ∷ arm 1000 (entry 16 1 1 0 ∷ []) ▸ Err BadEntry ∷ arm 1000 (entry 19 2 1 0 ∷ []) ▸ Err BadEntry
    ∷ arm 1000 (entry 27 2 0 0 ∷ []) ▸ at12 ∷ go ▸ routes R.Control 2200 ∷ item 1100 B.Seized ▸ interrupts (27 ╱ Two)
    ∷ arm 1100 (entry 27 2 1 0 ∷ entry 7 2 1 0 ∷ []) ▸ Err BadEntry ∷ arm 1100 (entry 27 2 1 0 ∷ []) ▸ Err Impossible ∷ [])
    -- "5": by the call's number, whatever the kinds
    ++ along (begun Terminating) (setup Originating plain (4 ∷ []) ▸ Err CallOpen ∷ [])
    ++ along held (setup Terminating plain (4 ∷ []) ▸ Err CallOpen ∷ [])
    -- "unarmed T_Busy, T_No_Answer": never a trigger
    ++ along [] (setup Terminating service8 (4 ∷ []) ▸ routes R.None 2200 ∷ item 2000 (B.Busy 17) ▸ ends None ∷ [])
    -- "forwarded flag": 0 or 1, unused; 2 is 1. (It stands at place 16 of the item.)
    ++ along [] (setup Terminating forwarded (4 ∷ []) ▸ interrupts (12 ╱ One) ∷ [])
    ++ along []
    (record { item = set (setup_for Terminating plain 0 true).item 16 2; profile = plain } ▸ Err MalformedItem
    ∷ setup_for Terminating service5 5 true ▸ interrupts (12 ╱ One) ∷ [])
    -- document 01's profile of a Setup: malformed is 2, for kind 11 too
    ++ along [] (setup Terminating [] (4 ∷ []) ▸ Err MalformedProfile ∷ [])
    -- T-05
    ++ hangs_up Originating (7 ╱ Two) (8 ╱ One) (19 ╱ Two) 9
    ++ hangs_up Terminating (15 ╱ Two) (16 ╱ Two) (27 ╱ Two) 17
    -- slip, a charge clock started at the grant: none runs before the Answer
    ++ along (granted Originating) (item 5600 (B.PeriodOver Two) ▸ Err Impossible ∷ [])
    -- slip, an unarmed Answer that disarms nothing
    ++ along held
    (arm 1000 (entry 4 2 0 0 ∷ entry 5 2 0 0 ∷ entry 6 2 0 0 ∷ entry 10 1 0 0 ∷ []) ▸ at2 ∷ go ▸ routes R.Control 2200
    ∷ item 5000 B.Answer ▸ says R.None None None ∷ [])
    -- slip, a relationship that outlives the last armed point
    ++ along held
    (arm 1000 (entry 19 2 1 0 ∷ []) ▸ at2 ∷ go ▸ routes R.Monitor 2200
    ∷ item 1100 B.Seized ▸ says R.None None (Some (Notification (19 ╱ Two))) ∷ item 1100 B.ActivityTest ▸ Err NoControl ∷ [])
    -- nor does the kept timer hold it, which outlives the arming of 6
    ++ along held
    (arm 1000 (entry 19 2 0 0 ∷ []) ▸ at2 ∷ go ▸ routes R.Control 2200 ∷ item 1100 B.Seized ▸ interrupts (19 ╱ Two)
    ∷ arm 1100 (entry 6 2 1 30 ∷ []) ▸ stays (19 ╱ Two) ∷ arm 1100 (entry 6 2 2 0 ∷ []) ▸ stays (19 ╱ Two)
    ∷ item 1100 B.Continue ▸ says R.None None None ∷ [])
    -- slip, a TNRy reused on the follow-on call
    ++ along held
    (arm 1000 (entry 6 2 0 30 ∷ []) ▸ at2 ∷ connect 1000 ▸ routes R.Control 1300
    ∷ item 1300 B.NoAnswer ▸ interrupts (6 ╱ Two) ∷ connect 1310 ▸ routes R.None 2510 ∷ [])
    -- slip, a half-applied arming list
    ++ along held (arm 1000 (entry 6 2 0 30 ∷ entry 5 2 3 0 ∷ []) ▸ Err BadEntry ∷ go ▸ routes R.None 2200 ∷ [])
    -- 2 before 5; 9 before 12; 7 before 8; 8 before 10
    ++ along held
    (setup Originating [] (4 ∷ []) ▸ Err MalformedProfile ∷ item 1000 (B.MidCall 1) ▸ Err Held ∷ go ▸ routes R.None 2200
    ∷ item 1000 (B.MidCall 1) ▸ Err Impossible ∷ item 999 B.Continue ▸ Err EarlierTime ∷ go ▸ Err NoControl ∷ [])
    -- 10 before 12; 11 before 12, for a bad entry after an impossible one
    ++ along held
    (arm 1000 (entry 7 2 0 0 ∷ []) ▸ at2 ∷ go ▸ routes R.Control 2200 ∷ connect 1000 ▸ Err NotHeld
    ∷ item 5000 B.Answer ▸ interrupts (7 ╱ Two) ∷ connect 5000 ▸ Err Impossible
    ∷ arm 5000 (entry 5 2 0 0 ∷ entry 9 3 0 0 ∷ []) ▸ Err BadEntry ∷ arm 5000 (entry 5 2 0 0 ∷ []) ▸ Err Impossible ∷ [])
    -- 12 before 13: leg 1 absent, a charge pending on leg 2
    ++ along held
    (arm 1000 (entry 10 1 0 0 ∷ []) ▸ at2 ∷ charge Two 600 ▸ at2 ∷ charge Two 600 ▸ Err ChargePending
    ∷ clear 1000 One ▸ interrupts (10 ╱ One) ∷ charge Two 600 ▸ Err Impossible ∷ [])
    -- triggering: inhibiting, a length, a service, forwarded calls only
    ++ along [] (setup Originating (stored 2) (4 ∷ 9 ∷ 1 ∷ 5 ∷ []) ▸ routes R.None 2200 ∷ [])
    ++ along [] (setup Originating (stored 2) (4 ∷ 9 ∷ []) ▸ triggered ∷ [])
    ++ along [] (setup Originating four_digits (1 ∷ 2 ∷ 3 ∷ 4 ∷ []) ▸ triggered ∷ [])
    ++ along [] (setup Originating four_digits (1 ∷ 2 ∷ 3 ∷ []) ▸ routes R.None 2200 ∷ [])
    ++ along [] (setup_for Originating service8 8 false ▸ triggered ∷ [])
    ++ along [] (setup Originating service8 (4 ∷ []) ▸ routes R.None 2200 ∷ [])
    ++ along [] (setup_for Originating forwarded 0 true ▸ triggered ∷ [])
    ++ along [] (setup Originating forwarded (4 ∷ []) ▸ routes R.None 2200 ∷ [])
    -- two charges, of leg 1 first: at the end of the call, and for a caller who hangs up while the call is held
    ++ along held
    (charge One 100 ▸ at2 ∷ charge Two 600 ▸ at2 ∷ go ▸ routes R.Monitor 2200 ∷ item 5000 B.Answer ▸ says R.Monitor None None
    ∷ clear 5123 One ▸ ok R.None None (reports None (elapsed 100) (elapsed 123)) None true ∷ [])
    ++ along held
    (charge One 100 ▸ at2 ∷ charge Two 600 ▸ at2 ∷ clear 1000 One ▸ ok R.None None (reports None (elapsed 0) (elapsed 0)) None true ∷ [])
    -- Release with a charge; a charge lost at Busy, then Continue without leg 2; Period over while held; Activity test
    ++ along held
    (arm 1000 (entry 9 2 0 0 ∷ []) ▸ at2 ∷ charge Two 600 ▸ at2 ∷ go ▸ routes R.Control 2200 ∷ item 5000 B.Answer ▸ says R.Control None None
    ∷ item 5050 B.Release ▸ bills2 50 true ∷ [])
    ++ along held
    (arm 1000 (entry 5 2 0 0 ∷ []) ▸ at2 ∷ charge Two 600 ▸ at2 ∷ go ▸ routes R.Control 2200
    ∷ item 2000 (B.Busy 17) ▸ ok R.Control (Some (5 ╱ Two)) (reports (Some (Interrupting (5 ╱ Two))) None (elapsed 0)) None false ∷ item 2010 B.Continue ▸ ends None ∷ [])
    ++ along held
    (item 1000 B.ActivityTest ▸ at2 ∷ arm 1000 (entry 7 2 0 0 ∷ []) ▸ at2 ∷ charge Two 600 ▸ at2 ∷ go ▸ routes R.Control 2200 ∷ item 5000 B.Answer ▸ interrupts (7 ╱ Two)
    ∷ item 5600 (B.PeriodOver Two) ▸ ok R.Control (Some (7 ╱ Two)) (reports None None (elapsed 600)) None false ∷ [])
    -- Abort: held at 2, the kept timer and the charge dropped; not held; with default release
    ++ along held (arm 1000 (entry 6 2 0 30 ∷ []) ▸ at2 ∷ charge Two 600 ▸ at2 ∷ item 1000 B.Abort ▸ routes R.None 2200 ∷ [])
    ++ along held (arm 1000 (entry 9 2 0 0 ∷ []) ▸ at2 ∷ go ▸ routes R.Control 2200 ∷ item 1000 B.Abort ▸ says R.None None None ∷ [])
    ++ along [] (setup Originating releasing (4 ∷ []) ▸ triggered ∷ charge Two 600 ▸ at2 ∷ item 1000 B.Abort ▸ ends None ∷ [])
    -- mode 2 disarms; 50 takes no mode 0; any point can be armed without leg 2, none without leg 1, but for mode 2
    ++ along held (arm 1000 (entry 5 2 0 0 ∷ []) ▸ at2 ∷ arm 1000 (entry 5 2 2 0 ∷ []) ▸ at2 ∷ arm 1000 (entry 50 1 0 0 ∷ []) ▸ Err BadEntry ∷ go ▸ routes R.None 2200 ∷ [])
    ++ along held
    (arm 1000 (entry 9 2 0 0 ∷ []) ▸ at2 ∷ go ▸ routes R.Control 2200 ∷ item 5000 B.Answer ▸ says R.Control None None ∷ clear 5100 Two ▸ interrupts (9 ╱ Two)
    ∷ arm 5100 (entry 4 2 1 0 ∷ []) ▸ stays (9 ╱ Two) ∷ [])
    ++ along held
    (arm 1000 (entry 10 1 0 0 ∷ []) ▸ at2 ∷ clear 1000 One ▸ interrupts (10 ╱ One)
    ∷ arm 1000 (entry 9 2 1 0 ∷ []) ▸ Err Impossible ∷ arm 1000 (entry 9 2 2 0 ∷ []) ▸ stays (10 ╱ One) ∷ [])

pub cases : map last_answer runs ≡ map (λ (c : Case). c.answer) runs
unfolding flatten all contains leads same item_bytes item_in_range rest_at body_from body_of item_of is_item read_item entry_of fields_of profile_bytes profile_in_range numbers_at numbers_end view_at profile_of is_profile some_matches triggers some_armed entries_of are_good are_possible armed_with met continued aborted respond_in early_of set_up_of open_of alone_step
cases = refl
