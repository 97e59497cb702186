-- Document 01's tables of one call, each computed whole in a single statement: numbers go in (an item, an entry's point and leg) and numbers come out (the report's point and leg, the refusal). A table that goes by points is computed for an originating call and, as T-04 has it, for a terminating one.
-- The wanted values are written from the papers, so a wrong row of a definition is found here, whatever the code does.
use Prim.Native.Nat.{ℕ, zero, suc}
use mathlib.Core.Path.{◌≡◌, refl}
use mathlib.Core.Bool.{Bool, true, false, cond}
use mathlib.Core.List.{List, [], ◌∷◌, ◌++◌, map, flatten}
use lib.ListN.{length, set, replicate}
use Rattle.std.specs.Prelude.{Option, Some, None, Ok, Err}
use Rattle.forms.specs.Bytes.{pad, all, contains, leads, same}
use Rattle.forms.specs.Fields.{leg_number}
use Rattle.forms.specs.Refusal.{number_of as refusal_number}
use Rattle.forms.specs.Item.{setup_of, item_in_range, entry_bytes, entry_of}
use Rattle.forms.specs.Profile.{Profile, fields_of, profile_bytes, profile_in_range, numbers_at, numbers_end, view_at, profile_of, is_profile, some_matches}
use Rattle.forms.specs.declared.profile.Criterion.TheVariants as A
use Rattle.forms.specs.declared.item.Bcsm.TheVariants.{Originating, Terminating}
use Rattle.forms.specs.declared.item.Leg.TheVariants.{One, Two}
use Rattle.forms.specs.declared.item.Body.TheVariants as B
use Rattle.forms.specs.declared.profile.Handling.TheVariants as D
use Rattle.call.specs.Types.{Bcsm, Body, Criterion, Handling, Leg, Role, Point, PointSet, Stage, Presence, Mode, Arming, Hold, Clock, Charge, LegState, Number, Record, Report, Answer, Stepped}
use Rattle.call.specs.declared.roles.Role.TheVariants as P
use Rattle.call.specs.declared.stages.Stage.TheVariants.{Analysing, Alerting, Active}
use Rattle.call.specs.declared.record.Presence.TheVariants.{Absent, Present}
use Rattle.call.specs.declared.armings.Mode.TheVariants as M
use Rattle.call.specs.declared.record.Hold.TheVariants as H
use Rattle.call.specs.declared.record.Clock.TheVariants as K
use Rattle.call.specs.declared.answers.Report.TheVariants as R
use Rattle.call.specs.Roles.{roles}
use Rattle.call.specs.Armings.{mode_at, unarmed, mode_of, is_mode, some_armed}
use Rattle.call.specs.Points.{set_of, point_in, role_in, is_point_set}
use Rattle.call.specs.Record.{places, blank, leg_at}
use Rattle.call.specs.Answers.{tenths_in}
use Rattle.call.specs.Trigger.{triggers}
use Rattle.call.specs.Request.{entries_of, are_good, are_possible, armed_with}
use Rattle.call.specs.Events.{met}
use Rattle.call.specs.Operations.{continued, aborted}
use Rattle.call.specs.Range.{places_in_range, number_in_range, in_range_of, record_in_range}
use Rattle.call.specs.Step.{respond_in, respond_of, step_of}
use Rattle.call.specs.Setup.{early_of, set_up_of, open_of}

-- ---- pairs of point and leg, as the listing prints them

infixr 75 ◌╱◌
abbrev ◌╱◌ : ℕ → ℕ → ℕ × ℕ
point ╱ leg = (point, leg)

abbrev pair_of : Point → ℕ × ℕ
pair_of q = q.number ╱ leg_number q.leg

abbrev pair_at : Bcsm → Role → ℕ × ℕ
pair_at b p = pair_of (point_in (set_of b) p)

abbrev kinds : List Bcsm
kinds = Originating ∷ Terminating ∷ []

-- the roles that have a pair, in the order of all ten: in a terminating call "Route failure is out of place"
abbrev roles_of : Bcsm → List Role
roles_of Originating = P.MidCall ∷ P.Disconnect1 ∷ P.Abandon ∷ P.Moved ∷ P.RouteFailure ∷ P.Busy ∷ P.NoAnswer ∷ P.Answer ∷ P.Disconnect2 ∷ P.Seized ∷ []
roles_of Terminating = P.MidCall ∷ P.Disconnect1 ∷ P.Abandon ∷ P.Moved ∷ P.Busy ∷ P.NoAnswer ∷ P.Answer ∷ P.Disconnect2 ∷ P.Seized ∷ []

-- "Armable: leg 1: 8 Mid-call, 9 Disconnect, 10 Abandon, 50 Moved. Leg 2: 4 Route failure, 5 Busy, 6 No answer, 7 Answer, 9 Disconnect, 19 Seized."
-- T-04: "Armable: leg 1: 17 Disconnect, 18 Abandon; leg 2: 13 Busy, 14 No answer, 15 Answer, 16 Mid-call, 17 Disconnect, 27 Call accepted, 51 Moved"
abbrev pairs : Bcsm → List (ℕ × ℕ)
pairs Originating = 8 ╱ 1 ∷ 9 ╱ 1 ∷ 10 ╱ 1 ∷ 50 ╱ 1 ∷ 4 ╱ 2 ∷ 5 ╱ 2 ∷ 6 ╱ 2 ∷ 7 ╱ 2 ∷ 9 ╱ 2 ∷ 19 ╱ 2 ∷ []
pairs Terminating = 16 ╱ 2 ∷ 17 ╱ 1 ∷ 18 ╱ 1 ∷ 51 ╱ 2 ∷ 13 ╱ 2 ∷ 14 ╱ 2 ∷ 15 ╱ 2 ∷ 17 ╱ 2 ∷ 27 ╱ 2 ∷ []

-- of all points that a byte can be, 255 first, and the legs 0 to 3, these name a role, and no other
abbrev known : Option Role → ℕ × ℕ → List ((ℕ × ℕ) × Role) → List ((ℕ × ℕ) × Role)
known None x l = l
known (Some p) x l = (x, p) ∷ l

unfoldable pub named_below : Bcsm → ℕ → ℕ → List ((ℕ × ℕ) × Role) → List ((ℕ × ℕ) × Role)
named_below b leg zero l = l
named_below b leg (suc n) l = named_below b leg n (known (role_in (set_of b) leg n) (n ╱ leg) l)

pub armable :
    map (λ (b : Bcsm). named_below b 0 256 [] ++ named_below b 1 256 [] ++ named_below b 2 256 [] ++ named_below b 3 256 []) kinds
    ≡ ((8 ╱ 1, P.MidCall) ∷ (9 ╱ 1, P.Disconnect1) ∷ (10 ╱ 1, P.Abandon) ∷ (50 ╱ 1, P.Moved)
    ∷ (4 ╱ 2, P.RouteFailure) ∷ (5 ╱ 2, P.Busy) ∷ (6 ╱ 2, P.NoAnswer) ∷ (7 ╱ 2, P.Answer) ∷ (9 ╱ 2, P.Disconnect2) ∷ (19 ╱ 2, P.Seized)
    ∷ [])
    ∷ ((17 ╱ 1, P.Disconnect1) ∷ (18 ╱ 1, P.Abandon)
    ∷ (13 ╱ 2, P.Busy) ∷ (14 ╱ 2, P.NoAnswer) ∷ (15 ╱ 2, P.Answer) ∷ (16 ╱ 2, P.MidCall) ∷ (17 ╱ 2, P.Disconnect2) ∷ (27 ╱ 2, P.Seized) ∷ (51 ╱ 2, P.Moved)
    ∷ [])
    ∷ []
unfolding named_below
armable = refl

pub reported_pairs : map (λ (b : Bcsm). map (pair_at b) (roles_of b)) kinds ≡ map pairs kinds
reported_pairs = refl

-- document 01's set with another point at Busy's place
abbrev with_busy : ℕ → Leg → PointSet
with_busy number leg = record { trigger = (set_of Originating).trigger; points = set (set_of Originating).points 5 (record { leg = leg; number = number }) }

-- what the test of a description lets pass: both sets, and another number; and what not: a pair twice, the trigger's number, a failing role on leg 1, a role that is not armable, a number of two bytes
pub descriptions :
    map (λ (d : PointSet). is_point_set d) (map set_of kinds ++ (with_busy 13 Two ∷ with_busy 6 Two ∷ with_busy 2 Two ∷ with_busy 5 One ∷ with_busy 0 Two ∷ with_busy 256 Two ∷ []))
    ≡ true ∷ true ∷ true ∷ false ∷ false ∷ false ∷ false ∷ false ∷ []
descriptions = refl

-- "Modes: 0 interrupted, 1 notify and continue, 2 transparent (disarms)."
pub modes : map mode_of (0 ∷ 1 ∷ 2 ∷ []) ≡ M.Interrupted ∷ M.Notify ∷ M.None ∷ []
modes = refl

-- ---- records: of a kind of call, by the profile's defaults, and all else; then a call to 49 whose last time is 1000, default timer 120, default continue, nothing kept

abbrev to : List ℕ → Number
to digits = record { nature = 4; count = length digits; digits = pad places digits }

abbrev by : Bcsm → ℕ → Handling → Stage → LegState → LegState → Hold → ℕ → List Arming → ℕ → Number → Record
by b timer handling stage leg1 leg2 hold last armings kept number = record {
  last = record { 0 = last };
  period1 = leg1.charge.period;
  start1 = leg1.charge.start;
  period2 = leg2.charge.period;
  start2 = leg2.charge.start;
  kept = record { 0 = kept };
  timer = record { 0 = timer };
  armings = armings;
  number = number;
  stage = stage;
  hold = hold;
  handling = handling;
  leg1 = leg1.presence;
  leg2 = leg2.presence;
  clock1 = leg1.charge.clock;
  clock2 = leg2.charge.clock;
  bcsm = b;
}

abbrev with : Bcsm → Stage → LegState → LegState → Hold → ℕ → List Arming → ℕ → Number → Record
with b = by b 120 D.Continue

abbrev charge : Clock → ℕ → ℕ → Charge
charge clock period start = record { clock = clock; period = record { 0 = period }; start = record { 0 = start } }

abbrev uncharged : Charge
uncharged = charge K.None 0 0

abbrev present : Charge → LegState
present c = record { presence = Present; charge = c }

abbrev gone : LegState
gone = record { presence = Absent; charge = uncharged }

abbrev waits : ℕ → Charge
waits period = charge K.Waiting period 0

abbrev runs : ℕ → ℕ → Charge
runs period start = charge K.Running period start

abbrev nothing : List Arming
nothing = replicate 10 unarmed

-- one point in a mode, by its place among the ten roles
abbrev only : ℕ → Mode → List Arming
only place m = set nothing place (record { mode = m })

-- every point of the call in one mode: there is none at Route failure's place in a terminating one
abbrev armed : Bcsm → Mode → List Arming
armed Originating m = replicate 10 (record { mode = m })
armed Terminating m = set (replicate 10 (record { mode = m })) 4 unarmed

-- in mode 0 all but Moved, which is in mode 1
abbrev interrupting : Bcsm → List Arming
interrupting b = set (armed b M.Interrupted) 3 (record { mode = M.Notify })

abbrev at : Bcsm → Stage → Hold → List Arming → Record
at b stage hold armings = with b stage (present uncharged) (present uncharged) hold 1000 armings 0 (to (4 ∷ 9 ∷ []))

-- ---- items of call 7 at a time, and what is seen of their answers

abbrev asked : ℕ → Record → Body → List ℕ → Stepped
asked t r b rest = respond_of r (record { call = 7; time = record { 0 = t }; body = b }) rest

abbrev item : Record → Body → Stepped
item r b = asked 1000 r b []

-- the refusal's number, 0 for none
abbrev refusal : Answer → ℕ
refusal (Err n) = refusal_number n
refusal (Ok o) = 0

-- refused; or accepted, with the pair that is reported
pub data Said : Type 0 where
  refuses : ℕ → Said
  silent : Said
  interrupts : ℕ × ℕ → Said
  notifies : ℕ × ℕ → Said

abbrev told : Option Report → Said
told None = silent
told (Some (R.Interrupting q)) = interrupts (pair_of q)
told (Some (R.Notification q)) = notifies (pair_of q)

abbrev said : Answer → Said
said (Err n) = refuses (refusal_number n)
said (Ok o) = told o.reports.event

-- ---- events

abbrev events : List Body
events = B.RouteFailure 3 ∷ B.Busy 17 ∷ B.NoAnswer ∷ B.Seized ∷ B.Answer ∷ B.MidCall 1 ∷ B.Moved ∷ B.Clear One 16 ∷ B.Clear Two 16 ∷ []

abbrev no : Said
no = refuses 12

-- "Points 4 and 19 need analysing; 5, 6, 7 analysing or alerting; 8 active; 50 alerting or active. Clear of leg 1 is Abandon before active, Disconnect when active; Clear of leg 2 needs active."
-- T-04: "13, 14, 15, 18 and 27 taking the parts of 5, 6, 7, 10 and 19; Mid-call and Moved need leg 2, and Route failure is out of place (12)"
-- Each event in analysing, alerting and active, every point armed
pub met_at :
    map (λ (b : Bcsm). map (λ (e : Body). map (λ (s : Stage). said (item (at b s H.None (interrupting b)) e).answer) (Analysing ∷ Alerting ∷ Active ∷ [])) events) kinds
    ≡ ((interrupts (4 ╱ 2) ∷ no ∷ no ∷ [])
    ∷ (interrupts (5 ╱ 2) ∷ interrupts (5 ╱ 2) ∷ no ∷ [])
    ∷ (interrupts (6 ╱ 2) ∷ interrupts (6 ╱ 2) ∷ no ∷ [])
    ∷ (interrupts (19 ╱ 2) ∷ no ∷ no ∷ [])
    ∷ (interrupts (7 ╱ 2) ∷ interrupts (7 ╱ 2) ∷ no ∷ [])
    ∷ (no ∷ no ∷ interrupts (8 ╱ 1) ∷ [])
    ∷ (no ∷ notifies (50 ╱ 1) ∷ notifies (50 ╱ 1) ∷ [])
    ∷ (interrupts (10 ╱ 1) ∷ interrupts (10 ╱ 1) ∷ interrupts (9 ╱ 1) ∷ [])
    ∷ (no ∷ no ∷ interrupts (9 ╱ 2) ∷ [])
    ∷ [])
    ∷ ((no ∷ no ∷ no ∷ [])
    ∷ (interrupts (13 ╱ 2) ∷ interrupts (13 ╱ 2) ∷ no ∷ [])
    ∷ (interrupts (14 ╱ 2) ∷ interrupts (14 ╱ 2) ∷ no ∷ [])
    ∷ (interrupts (27 ╱ 2) ∷ no ∷ no ∷ [])
    ∷ (interrupts (15 ╱ 2) ∷ interrupts (15 ╱ 2) ∷ no ∷ [])
    ∷ (no ∷ no ∷ interrupts (16 ╱ 2) ∷ [])
    ∷ (no ∷ notifies (51 ╱ 2) ∷ notifies (51 ╱ 2) ∷ [])
    ∷ (interrupts (18 ╱ 1) ∷ interrupts (18 ╱ 1) ∷ interrupts (17 ╱ 1) ∷ [])
    ∷ (no ∷ no ∷ interrupts (17 ╱ 2) ∷ [])
    ∷ [])
    ∷ []
unfolding some_armed met respond_in
met_at = refl

-- "An event needs its leg present": each event at a stage that allows it, without leg 1 and without leg 2
abbrev stages : List Stage
stages = Analysing ∷ Analysing ∷ Analysing ∷ Analysing ∷ Analysing ∷ Active ∷ Active ∷ Active ∷ Active ∷ []

abbrev zipped : {A B C : Type 0} → (A → B → C) → List A → List B → List C
zipped f [] ys = []
zipped f (x ∷ xs) [] = []
zipped f (x ∷ xs) (y ∷ ys) = f x y ∷ zipped f xs ys

abbrev without : LegState → LegState → Bcsm → List ℕ
without leg1 leg2 b = zipped (λ (s : Stage) (e : Body). refusal (item (with b s leg1 leg2 H.None 1000 nothing 0 (to (4 ∷ 9 ∷ []))) e).answer) stages events

pub needs_its_leg :
    (map (without gone (present uncharged)) kinds ≡ (0 ∷ 0 ∷ 0 ∷ 0 ∷ 0 ∷ 12 ∷ 12 ∷ 12 ∷ 0 ∷ []) ∷ (12 ∷ 0 ∷ 0 ∷ 0 ∷ 0 ∷ 0 ∷ 0 ∷ 12 ∷ 0 ∷ []) ∷ [])
    × (map (without (present uncharged) gone) kinds ≡ (12 ∷ 12 ∷ 12 ∷ 12 ∷ 12 ∷ 0 ∷ 0 ∷ 0 ∷ 12 ∷ []) ∷ (12 ∷ 12 ∷ 12 ∷ 12 ∷ 12 ∷ 12 ∷ 12 ∷ 0 ∷ 12 ∷ []) ∷ [])
unfolding some_armed met respond_in
needs_its_leg = (refl, refl)

-- what a met point leaves, where every point was armed: which stay armed; which legs are present; the stage; the point of suspension
pub record Left : Type 0 where
  pub armed : List (ℕ × ℕ)
  pub legs : List ℕ
  pub stage : Stage
  pub held : List (ℕ × ℕ)

abbrev armed_in : Bcsm → List Arming → List Role → List (ℕ × ℕ)
armed_in b a [] = []
armed_in b a (p ∷ ps) = cond (is_mode (mode_at p a) M.None) (armed_in b a ps) (pair_at b p ∷ armed_in b a ps)

abbrev leg_in : ℕ → Presence → List ℕ
leg_in n Absent = []
leg_in n Present = n ∷ []

abbrev held_at : Bcsm → Hold → List (ℕ × ℕ)
held_at b H.None = []
held_at b H.Trigger = pair_of (set_of b).trigger ∷ []
held_at b (H.At p) = pair_at b p ∷ []

abbrev left_in : Record → Left
left_in r = record { armed = armed_in r.bcsm r.armings roles; legs = leg_in 1 r.leg1 ++ leg_in 2 r.leg2; stage = r.stage; held = held_at r.bcsm r.hold }

abbrev leaves : List (ℕ × ℕ) → List ℕ → Stage → List (ℕ × ℕ) → Left
leaves armed legs stage held = record { armed = armed; legs = legs; stage = stage; held = held }

-- the points of leg 1, and of leg 2
abbrev of_leg1 : Bcsm → List (ℕ × ℕ)
of_leg1 Originating = 8 ╱ 1 ∷ 9 ╱ 1 ∷ 10 ╱ 1 ∷ 50 ╱ 1 ∷ []
of_leg1 Terminating = 17 ╱ 1 ∷ 18 ╱ 1 ∷ []

abbrev of_leg2 : Bcsm → List (ℕ × ℕ)
of_leg2 Originating = 4 ╱ 2 ∷ 5 ╱ 2 ∷ 6 ╱ 2 ∷ 7 ╱ 2 ∷ 9 ╱ 2 ∷ 19 ╱ 2 ∷ []
of_leg2 Terminating = 16 ╱ 2 ∷ 51 ╱ 2 ∷ 13 ╱ 2 ∷ 14 ╱ 2 ∷ 15 ╱ 2 ∷ 17 ╱ 2 ∷ 27 ╱ 2 ∷ []

-- the table 'met, disarms' (its row of 7 is T-01's); "The first and last rows also make that leg absent. Seized makes the stage alerting, Answer active. The call is held exactly if the mode was 0"
-- T-04: "Answer disarms 13, 14, 15, 18 and 27; the other rows are the same in kind, 16, 27 and 51 each disarming only itself"; Route failure is refused and leaves all
-- The last one is a caller who hangs up before the answer
pub met_leaves :
    map (λ (b : Bcsm). zipped (λ (s : Stage) (e : Body). left_in (item (at b s H.None (interrupting b)) e).next) (stages ++ (Alerting ∷ [])) (events ++ (B.Clear One 16 ∷ []))) kinds
    ≡ (leaves (of_leg1 Originating) (1 ∷ []) Analysing (4 ╱ 2 ∷ [])
    ∷ leaves (of_leg1 Originating) (1 ∷ []) Analysing (5 ╱ 2 ∷ [])
    ∷ leaves (of_leg1 Originating) (1 ∷ []) Analysing (6 ╱ 2 ∷ [])
    ∷ leaves (of_leg1 Originating ++ (4 ╱ 2 ∷ 5 ╱ 2 ∷ 6 ╱ 2 ∷ 7 ╱ 2 ∷ 9 ╱ 2 ∷ [])) (1 ∷ 2 ∷ []) Alerting (19 ╱ 2 ∷ [])
    ∷ leaves (8 ╱ 1 ∷ 9 ╱ 1 ∷ 50 ╱ 1 ∷ 9 ╱ 2 ∷ []) (1 ∷ 2 ∷ []) Active (7 ╱ 2 ∷ [])
    ∷ leaves (9 ╱ 1 ∷ 10 ╱ 1 ∷ 50 ╱ 1 ∷ of_leg2 Originating) (1 ∷ 2 ∷ []) Active (8 ╱ 1 ∷ [])
    ∷ leaves (8 ╱ 1 ∷ 9 ╱ 1 ∷ 10 ╱ 1 ∷ of_leg2 Originating) (1 ∷ 2 ∷ []) Active []
    ∷ leaves (of_leg2 Originating) (2 ∷ []) Active (9 ╱ 1 ∷ [])
    ∷ leaves (of_leg1 Originating) (1 ∷ []) Active (9 ╱ 2 ∷ [])
    ∷ leaves (of_leg2 Originating) (2 ∷ []) Alerting (10 ╱ 1 ∷ [])
    ∷ [])
    ∷ (leaves (pairs Terminating) (1 ∷ 2 ∷ []) Analysing []
    ∷ leaves (of_leg1 Terminating) (1 ∷ []) Analysing (13 ╱ 2 ∷ [])
    ∷ leaves (of_leg1 Terminating) (1 ∷ []) Analysing (14 ╱ 2 ∷ [])
    ∷ leaves (16 ╱ 2 ∷ 17 ╱ 1 ∷ 18 ╱ 1 ∷ 51 ╱ 2 ∷ 13 ╱ 2 ∷ 14 ╱ 2 ∷ 15 ╱ 2 ∷ 17 ╱ 2 ∷ []) (1 ∷ 2 ∷ []) Alerting (27 ╱ 2 ∷ [])
    ∷ leaves (16 ╱ 2 ∷ 17 ╱ 1 ∷ 51 ╱ 2 ∷ 17 ╱ 2 ∷ []) (1 ∷ 2 ∷ []) Active (15 ╱ 2 ∷ [])
    ∷ leaves (17 ╱ 1 ∷ 18 ╱ 1 ∷ 51 ╱ 2 ∷ 13 ╱ 2 ∷ 14 ╱ 2 ∷ 15 ╱ 2 ∷ 17 ╱ 2 ∷ 27 ╱ 2 ∷ []) (1 ∷ 2 ∷ []) Active (16 ╱ 2 ∷ [])
    ∷ leaves (16 ╱ 2 ∷ 17 ╱ 1 ∷ 18 ╱ 1 ∷ 13 ╱ 2 ∷ 14 ╱ 2 ∷ 15 ╱ 2 ∷ 17 ╱ 2 ∷ 27 ╱ 2 ∷ []) (1 ∷ 2 ∷ []) Active []
    ∷ leaves (of_leg2 Terminating) (2 ∷ []) Active (17 ╱ 1 ∷ [])
    ∷ leaves (of_leg1 Terminating) (1 ∷ []) Active (17 ╱ 2 ∷ [])
    ∷ leaves (of_leg2 Terminating) (2 ∷ []) Alerting (18 ╱ 1 ∷ [])
    ∷ [])
    ∷ []
unfolding some_armed met respond_in
met_leaves = refl

-- beside these the last time becomes the item's, 1010 (a terminating call refuses Route failure, which leaves 1000); the kept timer, the profile's defaults and the number stay. Each event, then a Clear of leg 1 and of leg 2 while held
abbrev keeping : Bcsm → Stage → Hold → Record
keeping b s h = by b 30 D.Release s (present uncharged) (present uncharged) h 1000 (interrupting b) 40 (to (4 ∷ 9 ∷ []))

abbrev kept_in : Record → ℕ × ℕ × ℕ × Handling × Number
kept_in r = (r.last.0, r.kept.0, r.timer.0, r.handling, r.number)

pub met_keeps :
    map
    (λ (b : Bcsm). zipped (λ (s : Stage) (e : Body). kept_in (asked 1010 (keeping b s H.None) e []).next) stages events
    ++ map (λ (l : Leg). kept_in (asked 1010 (keeping b Active (H.At P.Answer)) (B.Clear l 16) []).next) (One ∷ Two ∷ []))
    kinds
    ≡ map (λ (failure : ℕ). map (λ (t : ℕ). (t, 40, 30, D.Release, to (4 ∷ 9 ∷ []))) (failure ∷ replicate 10 1010)) (1010 ∷ 1000 ∷ [])
unfolding some_armed met respond_in
met_keeps = refl

-- "report by its mode if armed …; none if unarmed"; "If a leg became absent and the mode was not 0, the call is over": each event unarmed and armed for notification, and whether it ends the call
abbrev is_over : Answer → Bool
is_over (Err n) = false
is_over (Ok o) = o.over

abbrev seen_in : Mode → Bcsm → List (Said × Bool)
seen_in m b = zipped (λ (s : Stage) (e : Body). let a = (item (at b s H.None (armed b m)) e).answer in (said a, is_over a)) stages events

pub met_unarmed :
    map (seen_in M.None) kinds
    ≡ map (λ (failure : Said × Bool). failure ∷ map (λ (over : Bool). (silent, over)) (true ∷ true ∷ false ∷ false ∷ false ∷ false ∷ true ∷ true ∷ [])) ((silent, true) ∷ (no, false) ∷ [])
unfolding some_armed met respond_in
met_unarmed = refl

pub met_notified :
    map (seen_in M.Notify) kinds
    ≡ ((notifies (4 ╱ 2), true) ∷ (notifies (5 ╱ 2), true) ∷ (notifies (6 ╱ 2), true) ∷ (notifies (19 ╱ 2), false) ∷ (notifies (7 ╱ 2), false)
    ∷ (notifies (8 ╱ 1), false) ∷ (notifies (50 ╱ 1), false) ∷ (notifies (9 ╱ 1), true) ∷ (notifies (9 ╱ 2), true)
    ∷ [])
    ∷ ((no, false) ∷ (notifies (13 ╱ 2), true) ∷ (notifies (14 ╱ 2), true) ∷ (notifies (27 ╱ 2), false) ∷ (notifies (15 ╱ 2), false)
    ∷ (notifies (16 ╱ 2), false) ∷ (notifies (51 ╱ 2), false) ∷ (notifies (17 ╱ 1), true) ∷ (notifies (17 ╱ 2), true)
    ∷ [])
    ∷ []
unfolding some_armed met respond_in
met_notified = refl

-- ---- charges at an event: leg 1's runs since 900, leg 2's waits; each with period 600. What is reported of leg 1 and of leg 2, and what is left
pub record Billed : Type 0 where
  pub reported : List (Option ℕ)
  pub left : List Charge

abbrev reported_in : Answer → List (Option ℕ)
reported_in (Err n) = []
reported_in (Ok o) = tenths_in o.reports.charge1 ∷ tenths_in o.reports.charge2 ∷ []

abbrev billed_in : Stepped → Billed
billed_in s = record { reported = reported_in s.answer; left = (leg_at One s.next).charge ∷ (leg_at Two s.next).charge ∷ [] }

abbrev bills : Option ℕ → Option ℕ → Charge → Charge → Billed
bills one two c d = record { reported = one ∷ two ∷ []; left = c ∷ d ∷ [] }

abbrev charging : Bcsm → List Arming → Stage → Record
charging b a s = with b s (present (runs 600 900)) (present (waits 600)) H.None 1000 a 0 (to (4 ∷ 9 ∷ []))

-- held: "when the leg becomes absent"; "its clock starts at the first Answer …, and never restarts"; over: "when the call is over". Both kinds of call alike, but for Route failure
pub charges_held :
    map (λ (b : Bcsm). zipped (λ (s : Stage) (e : Body). billed_in (item (charging b (interrupting b) s) e)) stages events) kinds
    ≡ map
    (λ (failure : Billed). failure
    ∷ bills None (Some 0) (runs 600 900) uncharged
    ∷ bills None (Some 0) (runs 600 900) uncharged
    ∷ bills None None (runs 600 900) (waits 600)
    ∷ bills None None (runs 600 900) (runs 600 1000)
    ∷ bills None None (runs 600 900) (waits 600)
    ∷ bills None None (runs 600 900) (waits 600)
    ∷ bills (Some 100) None uncharged (waits 600)
    ∷ bills None (Some 0) (runs 600 900) uncharged
    ∷ [])
    (bills None (Some 0) (runs 600 900) uncharged ∷ record { reported = []; left = runs 600 900 ∷ waits 600 ∷ [] } ∷ [])
unfolding some_armed met respond_in
charges_held = refl

pub charges_over :
    map (λ (b : Bcsm). map (λ (e : Body). billed_in (item (charging b (armed b M.Notify) Active) e)) (B.Clear One 16 ∷ B.Clear Two 16 ∷ [])) kinds
    ≡ replicate 2 (replicate 2 (bills (Some 100) (Some 0) uncharged uncharged))
unfolding some_armed met respond_in
charges_over = refl

-- ---- a Clear while held: the report, whether the call is over, what is left of it and of its charges
-- The role met, by its place, is in mode 0, in mode 1 and unarmed, every other point armed; leg 1's charge runs since 900, leg 2's since 950

abbrev caller : LegState
caller = present (runs 600 900)

abbrev cleared : Bcsm → Leg → Stage → ℕ → LegState → Role → List (Said × Bool × Left × Billed)
cleared b l stage place one h =
    map (λ (m : Mode). seen (item (with b stage one (present (runs 600 950)) (H.At h) 1000 (set (interrupting b) place (record { mode = m })) 0 (to (4 ∷ 9 ∷ []))) (B.Clear l 16))) (M.Interrupted ∷ M.Notify ∷ M.None ∷ [])
  where
    seen : Stepped → Said × Bool × Left × Billed
    seen s = (said s.answer, is_over s.answer, left_in s.next, billed_in s)

-- T-05: "Armed for interruption: reported, the hold moves to Disconnect leg 2. For notification: reported, the hold stays. Unarmed: it stays. In all three leg 2 becomes absent, its points are disarmed, its charge is reported"
abbrev holds : Bcsm → ℕ × ℕ → LegState → ℕ × ℕ → List (Said × Bool × Left × Billed)
holds b met one h =
    let left = leaves (of_leg1 b) (leg_in 1 one.presence) Active in
    let bill = bills None (Some 50) one.charge uncharged in
    (interrupts met, false, left (met ∷ []), bill) ∷ (notifies met, false, left (h ∷ []), bill) ∷ (silent, false, left (h ∷ []), bill) ∷ []

-- held at Answer and at Mid-call; held at Disconnect of leg 1, which is gone
pub held_clear_of_2 :
    map (λ (b : Bcsm). let clear = cleared b Two Active 8 in clear caller P.Answer ∷ clear caller P.MidCall ∷ clear gone P.Disconnect1 ∷ []) kinds
    ≡ (let clear = holds Originating (9 ╱ 2) in clear caller (7 ╱ 2) ∷ clear caller (8 ╱ 1) ∷ clear gone (9 ╱ 1) ∷ [])
    ∷ (let clear = holds Terminating (17 ╱ 2) in clear caller (15 ╱ 2) ∷ clear caller (16 ╱ 2) ∷ clear gone (17 ╱ 1) ∷ [])
    ∷ []
unfolding some_armed met respond_in
held_clear_of_2 = refl

-- "The call is held exactly if the mode was 0 (moving any earlier hold). If a leg became absent and the mode was not 0, the call is over"
abbrev moves_or_ends : Bcsm → Stage → ℕ × ℕ → List (Said × Bool × Left × Billed)
moves_or_ends b s met =
    let left = leaves [] [] Analysing [] in
    let bill = bills (Some 100) (Some 50) uncharged uncharged in
    (interrupts met, false, leaves (of_leg2 b) (2 ∷ []) s (met ∷ []), bills (Some 100) None uncharged (runs 600 950)) ∷ (notifies met, true, left, bill) ∷ (silent, true, left, bill) ∷ []

-- held at Seized, alerting; held at Answer, active
pub held_clear_of_1 :
    map (λ (b : Bcsm). cleared b One Alerting 2 caller P.Seized ∷ cleared b One Active 1 caller P.Answer ∷ []) kinds
    ≡ (moves_or_ends Originating Alerting (10 ╱ 1) ∷ moves_or_ends Originating Active (9 ╱ 1) ∷ [])
    ∷ (moves_or_ends Terminating Alerting (18 ╱ 1) ∷ moves_or_ends Terminating Active (17 ╱ 1) ∷ [])
    ∷ []
unfolding some_armed met respond_in
held_clear_of_1 = refl

-- ---- "Elapsed = smaller of (time − start) and period": leg 1's charge at 900 (its start), 1499, 1500 and 1501, as a Clear of leg 1 reports it; period 600

pub elapsed_edges :
    map (λ (t : ℕ). reported_in (asked t (with Originating Active (present (runs 600 900)) (present uncharged) H.None 900 nothing 0 (to (4 ∷ 9 ∷ []))) (B.Clear One 16) []).answer) (900 ∷ 901 ∷ 1499 ∷ 1500 ∷ 1501 ∷ [])
    ≡ (Some 0 ∷ None ∷ []) ∷ (Some 1 ∷ None ∷ []) ∷ (Some 599 ∷ None ∷ []) ∷ (Some 600 ∷ None ∷ []) ∷ (Some 600 ∷ None ∷ []) ∷ []
unfolding some_armed met respond_in
elapsed_edges = refl

-- ---- Request report of one entry

abbrev entry : ℕ × ℕ → ℕ → ℕ → List ℕ
entry pair mode timer = entry_bytes (record { point = pair.0; leg = pair.1; mode = mode; timer = record { 0 = timer } })

abbrev requested : Record → List (List ℕ) → ℕ
requested r es = refusal (asked 1000 r (B.RequestReport (length es)) (flatten es)).answer

-- the five that matter: in analysing, in alerting, in active; with leg 2 absent; with leg 1 absent. All are held, so there is control
abbrev calls : Bcsm → List Record
calls b =
    at b Analysing H.Trigger nothing ∷ at b Alerting (H.At P.Seized) nothing ∷ at b Active (H.At P.Answer) nothing
    ∷ with b Active (present uncharged) gone (H.At P.Disconnect2) 1000 nothing 0 (to (4 ∷ 9 ∷ []))
    ∷ with b Analysing gone (present uncharged) (H.At P.Abandon) 1000 nothing 0 (to (4 ∷ 9 ∷ []))
    ∷ []

-- each of these pairs in a mode, in those five
abbrev armed_as : ℕ → List (ℕ × ℕ) → Bcsm → List (List ℕ)
armed_as mode x b = map (λ (pair : ℕ × ℕ). map (λ (r : Record). requested r (entry pair mode 0 ∷ [])) (calls b)) x

abbrev all_as : ℕ → List (List (List ℕ))
all_as mode = map (λ (b : Bcsm). armed_as mode (pairs b) b) kinds

abbrev always : List ℕ
always = 0 ∷ 0 ∷ 0 ∷ 0 ∷ 12 ∷ []

abbrev before_active : List ℕ
before_active = 0 ∷ 0 ∷ 12 ∷ 0 ∷ 12 ∷ []

abbrev in_analysing : List ℕ
in_analysing = 0 ∷ 12 ∷ 12 ∷ 0 ∷ 12 ∷ []

abbrev bad : List ℕ
bad = replicate 5 11

-- "Modes 0 and 1 need a point that can still occur: none once leg 1 is absent; with leg 2 absent, any (a Connect may follow); else 4 and 19 in analysing, 5, 6, 7, 10 before active, the rest always."
-- T-04: "Stages, routing and the arming rule are as before, with 13, 14, 15, 18 and 27 taking the parts of 5, 6, 7, 10 and 19"
pub armed_notify :
    all_as 1
    ≡ (always ∷ always ∷ before_active ∷ always ∷ in_analysing ∷ before_active ∷ before_active ∷ before_active ∷ always ∷ in_analysing ∷ [])
    ∷ (always ∷ always ∷ before_active ∷ always ∷ before_active ∷ before_active ∷ before_active ∷ always ∷ in_analysing ∷ [])
    ∷ []
unfolding flatten entry_of entries_of are_good are_possible armed_with some_armed respond_in
armed_notify = refl

-- "Point 50 never takes mode 0."; T-04: "51 Moved (never mode 0)"
pub armed_interrupted :
    all_as 0
    ≡ (always ∷ always ∷ before_active ∷ bad ∷ in_analysing ∷ before_active ∷ before_active ∷ before_active ∷ always ∷ in_analysing ∷ [])
    ∷ (always ∷ always ∷ before_active ∷ bad ∷ before_active ∷ before_active ∷ before_active ∷ always ∷ in_analysing ∷ [])
    ∷ []
unfolding flatten entry_of entries_of are_good are_possible armed_with some_armed respond_in
armed_interrupted = refl

-- mode 2 disarms whatever can occur; there is no mode 3
pub armed_transparent : all_as 2 ≡ replicate 10 (replicate 5 0) ∷ replicate 9 (replicate 5 0) ∷ []
unfolding flatten entry_of entries_of are_good are_possible armed_with some_armed respond_in
armed_transparent = refl

pub armed_mode_3 : all_as 3 ≡ replicate 10 bad ∷ replicate 9 bad ∷ []
unfolding flatten entry_of entries_of are_good are_possible armed_with some_armed respond_in
armed_mode_3 = refl

-- T-04: "the point pairs of refusals 3 and 11 follow the call's kind": the other kind's are 11, before any 12
pub armed_other_kind : armed_as 1 (pairs Terminating) Originating ∷ armed_as 1 (pairs Originating) Terminating ∷ [] ≡ replicate 9 bad ∷ replicate 10 bad ∷ []
unfolding flatten entry_of entries_of are_good are_possible armed_with some_armed respond_in
armed_other_kind = refl

-- "Timer is 0 (none) except for point 6 with mode 0 or 1, where it is 0..2047": each point with timer 1 in mode 1; point 6 in modes 0, 1 and 2. T-04: 14 takes the part of 6
pub timers :
    (map (λ (b : Bcsm). map (λ (x : ℕ × ℕ). requested (at b Analysing H.Trigger nothing) (entry x 1 1 ∷ [])) (pairs b)) kinds
    ≡ (11 ∷ 11 ∷ 11 ∷ 11 ∷ 11 ∷ 11 ∷ 0 ∷ 11 ∷ 11 ∷ 11 ∷ []) ∷ (11 ∷ 11 ∷ 11 ∷ 11 ∷ 11 ∷ 0 ∷ 11 ∷ 11 ∷ 11 ∷ []) ∷ [])
    × (zipped (λ (b : Bcsm) (p : ℕ × ℕ). map (λ (x : ℕ × ℕ). requested (at b Analysing H.Trigger nothing) (entry p x.0 x.1 ∷ [])) ((0, 2047) ∷ (1, 2047) ∷ (2, 1) ∷ (0, 2048) ∷ (1, 2048) ∷ [])) kinds (6 ╱ 2 ∷ 14 ╱ 2 ∷ [])
    ≡ replicate 2 (0 ∷ 0 ∷ 11 ∷ 11 ∷ 11 ∷ []))
unfolding flatten entry_of entries_of are_good are_possible armed_with some_armed respond_in
timers = (refl, refl)

-- "a pair named twice": both ways round of two pairs with one number, and one of them twice; a pair twice with one between
abbrev twice : Bcsm → ℕ → ℕ × ℕ → ℕ × ℕ → List ℕ
twice b disconnect x y =
    map (λ (es : List (List ℕ)). requested (at b Analysing H.Trigger nothing) es)
    ((entry (disconnect ╱ 1) 1 0 ∷ entry (disconnect ╱ 2) 1 0 ∷ []) ∷ (entry (disconnect ╱ 2) 1 0 ∷ entry (disconnect ╱ 1) 1 0 ∷ [])
    ∷ (entry (disconnect ╱ 2) 1 0 ∷ entry (disconnect ╱ 2) 2 0 ∷ []) ∷ (entry x 1 0 ∷ entry y 1 0 ∷ entry x 1 0 ∷ []) ∷ [])

pub named_twice : twice Originating 9 (8 ╱ 1) (5 ╱ 2) ∷ twice Terminating 17 (16 ╱ 2) (13 ╱ 2) ∷ [] ≡ replicate 2 (0 ∷ 0 ∷ 11 ∷ 11 ∷ [])
unfolding flatten entry_of entries_of are_good are_possible armed_with some_armed respond_in
named_twice = refl

-- ---- Numbered refusals: every item in fourteen calls of each kind

-- Setup of both kinds; the nine events; Period over of leg 1 and leg 2; Request report, for Disconnect of leg 2; Continue, Connect, Release; Apply charging for leg 1 and leg 2; Activity test, Abort
abbrev asks : ℕ → ℕ → Record → List ℕ
asks disconnect t r =
    map (λ (e : Body). refusal (asked t r e []).answer) (map (λ (b : Bcsm). B.Setup (setup_of b 4 0 false 2)) kinds ++ events ++ (B.PeriodOver One ∷ B.PeriodOver Two ∷ []))
    ++ (refusal (asked t r (B.RequestReport 1) (entry (disconnect ╱ 2) 1 0)).answer
    ∷ map (λ (e : Body). refusal (asked t r e (4 ∷ 6 ∷ [])).answer) (B.Continue ∷ B.Connect 4 2 ∷ B.Release ∷ B.ApplyCharging One (record { 0 = 600 }) ∷ B.ApplyCharging Two (record { 0 = 600 }) ∷ B.ActivityTest ∷ B.Abort ∷ []))

-- what is told in a kind of call, and what is wanted; Route failure that is not turned away before gets `failure`
infixr 65 ◌▸◌
abbrev ◌▸◌ : List ℕ → List ℕ → List ℕ × List ℕ
told ▸ wanted = (told, wanted)

abbrev refusals_in : Bcsm → ℕ → ℕ → List (List ℕ × List ℕ)
refusals_in b disconnect failure =
    let ask = asks disconnect in
    let number = to (4 ∷ 9 ∷ []) in
    -- "time before the call's last", held at the trigger
    (ask 999 (at b Analysing H.Trigger nothing) ▸ 5 ∷ 5 ∷ replicate 19 7)
    -- no relationship, in analysing
    ∷ (ask 1000 (at b Analysing H.None nothing) ▸ 5 ∷ 5 ∷ failure ∷ 0 ∷ 0 ∷ 0 ∷ 0 ∷ 12 ∷ 12 ∷ 0 ∷ 12 ∷ 12 ∷ 12 ∷ 8 ∷ 8 ∷ 8 ∷ 8 ∷ 8 ∷ 8 ∷ 8 ∷ 8 ∷ [])
    -- monitor, by Disconnect of leg 2 in mode 1; active; a charge of leg 2 whose period is over now
    ∷ (ask 1000 (with b Active (present uncharged) (present (runs 100 900)) H.None 1000 (only 8 M.Notify) 0 number)
    ▸ 5 ∷ 5 ∷ 12 ∷ 12 ∷ 12 ∷ 12 ∷ 12 ∷ 0 ∷ 0 ∷ 0 ∷ 0 ∷ 12 ∷ 0 ∷ 8 ∷ 8 ∷ 8 ∷ 8 ∷ 8 ∷ 8 ∷ 0 ∷ 0 ∷ [])
    -- monitor, by a charge of leg 1 alone, and by one of leg 2 alone, whose clocks wait; alerting
    ∷ (ask 1000 (with b Alerting (present (waits 100)) (present uncharged) H.None 1000 nothing 0 number)
    ▸ 5 ∷ 5 ∷ 12 ∷ 0 ∷ 0 ∷ 12 ∷ 0 ∷ 12 ∷ 0 ∷ 0 ∷ 12 ∷ 12 ∷ 12 ∷ 8 ∷ 8 ∷ 8 ∷ 8 ∷ 8 ∷ 8 ∷ 0 ∷ 0 ∷ [])
    ∷ (ask 1000 (with b Alerting (present uncharged) (present (waits 100)) H.None 1000 nothing 0 number)
    ▸ 5 ∷ 5 ∷ 12 ∷ 0 ∷ 0 ∷ 12 ∷ 0 ∷ 12 ∷ 0 ∷ 0 ∷ 12 ∷ 12 ∷ 12 ∷ 8 ∷ 8 ∷ 8 ∷ 8 ∷ 8 ∷ 8 ∷ 0 ∷ 0 ∷ [])
    -- control, by Answer in mode 0, not held; alerting; a charge of leg 1 whose period is not over yet, one of leg 2 that waits
    ∷ (ask 1000 (with b Alerting (present (runs 100 901)) (present (waits 100)) H.None 1000 (only 7 M.Interrupted) 0 number)
    ▸ 5 ∷ 5 ∷ 12 ∷ 0 ∷ 0 ∷ 12 ∷ 0 ∷ 12 ∷ 0 ∷ 0 ∷ 12 ∷ 14 ∷ 12 ∷ 0 ∷ 10 ∷ 10 ∷ 0 ∷ 13 ∷ 13 ∷ 0 ∷ 0 ∷ [])
    -- held at the trigger; held at Seized, alerting; held at Answer, active. T-05: "9 excepts Clear of either leg"; a Clear of leg 2 "is accepted while held, if active and leg 2 is present"
    ∷ (ask 1000 (at b Analysing H.Trigger nothing) ▸ 5 ∷ 5 ∷ 9 ∷ 9 ∷ 9 ∷ 9 ∷ 9 ∷ 9 ∷ 9 ∷ 0 ∷ 12 ∷ 12 ∷ 12 ∷ replicate 8 0)
    ∷ (ask 1000 (at b Alerting (H.At P.Seized) nothing) ▸ 5 ∷ 5 ∷ 9 ∷ 9 ∷ 9 ∷ 9 ∷ 9 ∷ 9 ∷ 9 ∷ 0 ∷ 12 ∷ 12 ∷ 12 ∷ 0 ∷ 0 ∷ 12 ∷ replicate 5 0)
    ∷ (ask 1000 (at b Active (H.At P.Answer) nothing) ▸ 5 ∷ 5 ∷ 9 ∷ 9 ∷ 9 ∷ 9 ∷ 9 ∷ 9 ∷ 9 ∷ 0 ∷ 0 ∷ 12 ∷ 12 ∷ 0 ∷ 0 ∷ 12 ∷ replicate 5 0)
    -- held at Busy, leg 2 absent; held at Abandon, leg 1 absent
    ∷ (ask 1000 (with b Analysing (present uncharged) gone (H.At P.Busy) 1000 nothing 0 number)
    ▸ 5 ∷ 5 ∷ 9 ∷ 9 ∷ 9 ∷ 9 ∷ 9 ∷ 9 ∷ 9 ∷ 0 ∷ 12 ∷ 12 ∷ 12 ∷ 0 ∷ 0 ∷ 0 ∷ 0 ∷ 0 ∷ 12 ∷ 0 ∷ 0 ∷ [])
    ∷ (ask 1000 (with b Analysing gone (present uncharged) (H.At P.Abandon) 1000 nothing 0 number)
    ▸ 5 ∷ 5 ∷ 9 ∷ 9 ∷ 9 ∷ 9 ∷ 9 ∷ 9 ∷ 9 ∷ 12 ∷ 12 ∷ 12 ∷ 12 ∷ 12 ∷ 0 ∷ 12 ∷ 0 ∷ 12 ∷ 12 ∷ 0 ∷ 0 ∷ [])
    -- active: held at Answer, leg 2 absent; held at Disconnect of leg 1, leg 1 absent, and both legs
    ∷ (ask 1000 (with b Active (present uncharged) gone (H.At P.Answer) 1000 nothing 0 number)
    ▸ 5 ∷ 5 ∷ 9 ∷ 9 ∷ 9 ∷ 9 ∷ 9 ∷ 9 ∷ 9 ∷ 0 ∷ 12 ∷ 12 ∷ 12 ∷ 0 ∷ 0 ∷ 0 ∷ 0 ∷ 0 ∷ 12 ∷ 0 ∷ 0 ∷ [])
    ∷ (ask 1000 (with b Active gone (present uncharged) (H.At P.Disconnect1) 1000 nothing 0 number)
    ▸ 5 ∷ 5 ∷ 9 ∷ 9 ∷ 9 ∷ 9 ∷ 9 ∷ 9 ∷ 9 ∷ 12 ∷ 0 ∷ 12 ∷ 12 ∷ 12 ∷ 0 ∷ 12 ∷ 0 ∷ 12 ∷ 12 ∷ 0 ∷ 0 ∷ [])
    ∷ (ask 1000 (with b Active gone gone (H.At P.Disconnect1) 1000 nothing 0 number)
    ▸ 5 ∷ 5 ∷ 9 ∷ 9 ∷ 9 ∷ 9 ∷ 9 ∷ 9 ∷ 9 ∷ 12 ∷ 12 ∷ 12 ∷ 12 ∷ 12 ∷ 0 ∷ 12 ∷ 0 ∷ 12 ∷ 12 ∷ 0 ∷ 0 ∷ [])
    ∷ []

-- "Route failure is out of place (12)" in a terminating call; held it is 9 all the same
pub refusals : let rows = refusals_in Originating 9 0 ++ refusals_in Terminating 17 12 in map (λ (x : List ℕ × List ℕ). x.0) rows ≡ map (λ (x : List ℕ × List ℕ). x.1) rows
unfolding entry_of entries_of are_good are_possible armed_with some_armed met continued aborted respond_in
refusals = refl

-- ---- what the operations and Period over leave, field by field: the deadline and the next record

abbrev deadline_in : Answer → Option ℕ
deadline_in (Err n) = None
deadline_in (Ok o) = tenths_in o.deadline

abbrev after : ℕ → Record → Body → List ℕ → Option ℕ × Record
after t r b rest = let s = asked t r b rest in (deadline_in s.answer, s.next)

-- held at the trigger, both charges waiting, Busy and No answer armed, 30 seconds kept
abbrev armings : List Arming
armings = set (only 5 M.Interrupted) 6 (record { mode = M.Interrupted })

abbrev held : Bcsm → Record
held b = with b Analysing (present (waits 600)) (present (waits 700)) H.Trigger 1000 armings 30 (to (4 ∷ 9 ∷ []))

-- held at Disconnect of leg 2, which is gone; leg 1's charge runs
abbrev left : Bcsm → Record
left b = with b Active (present (runs 600 900)) gone (H.At P.Disconnect2) 1000 armings 30 (to (4 ∷ 9 ∷ []))

-- in a kind of call whose Busy, No answer and Abandon have these numbers
abbrev operations : Bcsm → ℕ → ℕ → ℕ → List (Option ℕ × Record)
operations b busy no_answer abandon =
    -- "each overwrites its point"; "a nonzero one is kept, 0 changes nothing kept"
    after 1010 (held b) (B.RequestReport 2) (entry (no_answer ╱ 2) 1 40 ++ entry (abandon ╱ 1) 0 0)
    ∷ after 1010 (held b) (B.RequestReport 1) (entry (busy ╱ 2) 2 0)
    -- "else resumes"; "deadline = time + kept timer × 10, used once"
    ∷ after 1010 (held b) B.Continue []
    ∷ after 1010 (at b Active (H.At P.Answer) armings) B.Continue []
    -- "leg 2 is present again, stage analysing, number replaced, the hold ends"
    ∷ after 1010 (held b) (B.Connect 3 1) (6 ∷ [])
    ∷ after 1010 (left b) (B.Connect 3 1) (6 ∷ [])
    -- "Continue: over if a leg is absent"; "Release: over"
    ∷ after 1010 (left b) B.Continue []
    ∷ after 1010 (held b) B.Release []
    -- "Activity test: nothing but the time changes"
    ∷ after 1010 (held b) B.ActivityTest []
    -- "Abort: all armings, charges and the kept timer dropped unreported; …; else as Continue if held"; "else the profile's default × 10"
    ∷ after 1010 (held b) B.Abort []
    ∷ after 1010 (with b Active (present (runs 600 900)) (present (waits 700)) H.None 1000 armings 30 (to (4 ∷ 9 ∷ []))) B.Abort []
    -- "its clock starts at the first Answer after it was accepted, or at once when active"
    ∷ after 1010 (at b Alerting (H.At P.Seized) armings) (B.ApplyCharging One (record { 0 = 600 })) []
    ∷ after 1010 (at b Active (H.At P.Answer) armings) (B.ApplyCharging Two (record { 0 = 700 })) []
    -- "reported and removed when Period over is accepted"
    ∷ after 1500 (left b) (B.PeriodOver One) []
    ∷ []

-- and these are wanted, T-04: the kind of call stays
abbrev leave : Bcsm → List (Option ℕ × Record)
leave b =
    (None, with b Analysing (present (waits 600)) (present (waits 700)) H.Trigger 1010 (set (set armings 6 (record { mode = M.Notify })) 2 (record { mode = M.Interrupted })) 40 (to (4 ∷ 9 ∷ [])))
    ∷ (None, with b Analysing (present (waits 600)) (present (waits 700)) H.Trigger 1010 (only 6 M.Interrupted) 30 (to (4 ∷ 9 ∷ [])))
    ∷ (Some 1310, with b Analysing (present (waits 600)) (present (waits 700)) H.None 1010 armings 0 (to (4 ∷ 9 ∷ [])))
    ∷ (None, with b Active (present uncharged) (present uncharged) H.None 1010 armings 0 (to (4 ∷ 9 ∷ [])))
    ∷ (Some 1310, with b Analysing (present (waits 600)) (present (waits 700)) H.None 1010 armings 0 (record { nature = 3; count = 1; digits = pad places (6 ∷ []) }))
    ∷ (Some 1310, with b Analysing (present (runs 600 900)) (present uncharged) H.None 1010 armings 0 (record { nature = 3; count = 1; digits = pad places (6 ∷ []) }))
    ∷ (None, blank)
    ∷ (None, blank)
    ∷ (None, with b Analysing (present (waits 600)) (present (waits 700)) H.Trigger 1010 armings 30 (to (4 ∷ 9 ∷ [])))
    ∷ (Some 2210, with b Analysing (present uncharged) (present uncharged) H.None 1010 nothing 0 (to (4 ∷ 9 ∷ [])))
    ∷ (None, with b Active (present uncharged) (present uncharged) H.None 1010 nothing 0 (to (4 ∷ 9 ∷ [])))
    ∷ (None, with b Alerting (present (waits 600)) (present uncharged) (H.At P.Seized) 1010 armings 0 (to (4 ∷ 9 ∷ [])))
    ∷ (None, with b Active (present uncharged) (present (runs 700 1010)) (H.At P.Answer) 1010 armings 0 (to (4 ∷ 9 ∷ [])))
    ∷ (None, with b Active (present uncharged) gone (H.At P.Disconnect2) 1500 armings 30 (to (4 ∷ 9 ∷ [])))
    ∷ []

pub operations_leave : operations Originating 5 6 10 ++ operations Terminating 13 14 18 ≡ leave Originating ++ leave Terminating
unfolding entry_of entries_of are_good are_possible armed_with some_armed continued aborted respond_in
operations_leave = refl

-- ---- "In range are: …": each field at its last value in range and at its first outside

abbrev ranged : Bcsm → Charge → Charge → Hold → ℕ → List Arming → ℕ → Number → Record
ranged b c d hold last armings kept number = with b Active (present c) (present d) hold last armings kept number

abbrev timed : Bcsm → ℕ → Record
timed b n = by b n D.Release Active (present uncharged) (present uncharged) H.None 1000 nothing 0 (to (4 ∷ 9 ∷ []))

abbrev numbered : Bcsm → ℕ → ℕ → List ℕ → Record
numbered b nature count digits = ranged b uncharged uncharged H.None 1000 nothing 0 (record { nature = nature; count = count; digits = pad places digits })

abbrev charged : Bcsm → Charge → List Record
charged b c = ranged b c uncharged H.None 1000 nothing 0 (to (4 ∷ 9 ∷ [])) ∷ ranged b uncharged c H.None 1000 nothing 0 (to (4 ∷ 9 ∷ [])) ∷ []

-- Route failure held at and armed: T-04: "the point pairs of refusals 3 and 11 follow the call's kind", and a terminating call's has none
abbrev failing : Bcsm → List Record
failing b = at b Active (H.At P.RouteFailure) nothing ∷ at b Active H.None (only 4 M.Interrupted) ∷ at b Active H.None (only 4 M.Notify) ∷ []

abbrev fits : Bcsm → List Record
fits b =
    -- "hold none, 2 or an armable point with its leg, 50 excepted"; "times below 2^48"; "kept timer 0..2047"; "an arming none, 0 or 1 (50 never 0)"; T-04: "with 12 for the hold at 2 and 51 for 50"
    map (λ (h : Hold). at b Active h nothing)
    (H.None ∷ H.Trigger ∷ H.At P.MidCall ∷ H.At P.Disconnect1 ∷ H.At P.Abandon ∷ H.At P.Busy ∷ H.At P.NoAnswer ∷ H.At P.Answer ∷ H.At P.Disconnect2 ∷ H.At P.Seized ∷ [])
    ++ (ranged b uncharged uncharged H.None 281474976710655 (interrupting b) 2047 (to (4 ∷ 9 ∷ [])) ∷ at b Active H.None (armed b M.Notify) ∷ timed b 10 ∷ timed b 180 ∷ [])
    -- a period and a start; the called number
    ++ charged b (waits 1) ++ charged b (waits 864000) ++ charged b (runs 864000 1000)
    ++ (numbered b 0 1 (14 ∷ []) ∷ numbered b 127 15 (replicate 15 14) ∷ [])

abbrev unfit : Bcsm → List Record
unfit b =
    at b Active (H.At P.Moved) nothing ∷ at b Active H.None (only 3 M.Interrupted)
    ∷ ranged b uncharged uncharged H.None 281474976710656 nothing 0 (to (4 ∷ 9 ∷ [])) ∷ ranged b uncharged uncharged H.None 1000 nothing 2048 (to (4 ∷ 9 ∷ []))
    ∷ timed b 9 ∷ timed b 181
    -- a period or a start of no charge, a start of one that waits
    ∷ charged b (charge K.None 1 0) ++ charged b (charge K.None 0 1) ++ charged b (charge K.Waiting 600 1)
    ++ charged b (waits 0) ++ charged b (waits 864001) ++ charged b (runs 0 1000) ++ charged b (runs 864001 1000) ++ charged b (runs 600 1001)
    -- nature 128, no digits, 16 digits, digit 15; "digit places past the called number's count zero": the first past it, and the last
    ++ (numbered b 128 1 (4 ∷ []) ∷ numbered b 4 0 [] ∷ numbered b 4 16 (replicate places 4) ∷ numbered b 4 1 (15 ∷ []) ∷ numbered b 4 1 (4 ∷ 9 ∷ []) ∷ numbered b 4 15 (replicate places 1) ∷ [])

pub in_range_lem :
    let good = failing Originating ++ fits Originating ++ fits Terminating in
    let damaged = failing Terminating ++ unfit Originating ++ unfit Terminating in
    (map record_in_range good ≡ map (λ (r : Record). true) good) × (map record_in_range damaged ≡ map (λ (r : Record). false) damaged)
unfolding places_in_range number_in_range in_range_of
in_range_lem = (refl, refl)

-- ---- Triggering: stored are 49, of nature 4, and the length 2; services 8 and 9

abbrev profile : Criterion → List ℕ → Criterion → Profile
profile sense services forwarding = record {
  handling = D.Continue;
  timer = record { 0 = 120 };
  sense = sense;
  numbers = record { nature = 4; digits = 4 ∷ 9 ∷ [] } ∷ [];
  lengths = 2 ∷ [];
  services = services;
  forwarding = forwarding;
}

-- both match; the number alone; the length alone, also where natures differ; neither
abbrev dialled : List (ℕ × List ℕ)
dialled = (4, 4 ∷ 9 ∷ []) ∷ (4, 4 ∷ 9 ∷ 5 ∷ []) ∷ (4, 1 ∷ 2 ∷ []) ∷ (3, 4 ∷ 9 ∷ []) ∷ (3, 4 ∷ 9 ∷ 5 ∷ []) ∷ []

abbrev senses : Bcsm → Criterion → List Bool
senses b sense = map (λ (d : ℕ × List ℕ). triggers (profile sense [] A.Absent) (setup_of b d.0 8 false (length d.1)) d.1) dialled

abbrev served : Bcsm → List ℕ → List Bool
served b services = map (λ (n : ℕ). triggers (profile A.Absent services A.Absent) (setup_of b 4 n false 1) (4 ∷ [])) (8 ∷ 9 ∷ 7 ∷ [])

abbrev forwards : Bcsm → Criterion → List Bool
forwards b c = map (λ (f : Bool). triggers (profile A.Absent [] c) (setup_of b 4 8 f 1) (4 ∷ [])) (true ∷ false ∷ [])

abbrev triggered : Bcsm → List (List Bool)
triggered b =
    senses b A.Absent ∷ senses b A.Enabling ∷ senses b A.Inhibiting ∷ served b [] ∷ served b (8 ∷ 9 ∷ []) ∷ forwards b A.Absent ∷ forwards b A.Enabling ∷ forwards b A.Inhibiting
    ∷ map (λ (x : Criterion × ℕ × Bool). triggers (profile x.0 (8 ∷ []) A.Enabling) (setup_of b 4 x.1 x.2 2) (4 ∷ 9 ∷ [])) ((A.Enabling, 8, true) ∷ (A.Inhibiting, 8, true) ∷ (A.Enabling, 7, true) ∷ (A.Enabling, 8, false) ∷ [])
    ∷ []

-- "Enabling: some number or some length matches. Inhibiting: no number and no length matches. Service: list empty, or the call's service is in it. Forwarding: enabling wants a forwarded call, inhibiting one that isn't."
-- "All present criteria must hold.": each of the three fails alone. T-04: a terminating Setup is "triggered by the service list alone"
pub triggering :
    map triggered kinds
    ≡ (replicate 5 true ∷ (true ∷ true ∷ true ∷ true ∷ false ∷ []) ∷ (false ∷ false ∷ false ∷ false ∷ true ∷ []) ∷ replicate 3 true ∷ (true ∷ true ∷ false ∷ []) ∷ replicate 2 true ∷ (true ∷ false ∷ []) ∷ (false ∷ true ∷ [])
    ∷ (true ∷ false ∷ false ∷ false ∷ [])
    ∷ [])
    ∷ (replicate 5 true ∷ replicate 5 true ∷ replicate 5 true ∷ replicate 3 true ∷ (true ∷ true ∷ false ∷ []) ∷ replicate 2 true ∷ replicate 2 true ∷ replicate 2 true
    ∷ (true ∷ true ∷ false ∷ true ∷ [])
    ∷ [])
    ∷ []
unfolding contains leads some_matches triggers
triggering = refl

-- ---- where no call is open

abbrev opened : Body → List ℕ → List ℕ → Stepped
opened b rest s = open_of (record { call = 7; time = record { 0 = 1000 }; body = b }) rest s

-- default release, 30 seconds; and the same for service 8 alone
abbrev any : List ℕ
any = 0 ∷ 10 ∷ 1 ∷ 1 ∷ 30 ∷ 0 ∷ 0 ∷ 0 ∷ 0 ∷ 0 ∷ []

abbrev only8 : List ℕ
only8 = 0 ∷ 11 ∷ 1 ∷ 1 ∷ 30 ∷ 0 ∷ 0 ∷ 0 ∷ 1 ∷ 8 ∷ 0 ∷ []

abbrev begins : Bcsm → Hold → Record
begins b hold = by b 30 D.Release Analysing (present uncharged) (present uncharged) hold 1000 nothing 0 (to (4 ∷ 9 ∷ []))

-- "stage analysing, both legs, held as Triggering says, last time the item's, nothing armed, no charge, no kept timer, the profile's defaults, the Setup's number"; "the call is held at point 2 and an interrupting report for 2, leg 1, goes out"
-- T-04: "hold and report are then at 12, leg 1"
abbrev setup : Bcsm → List ℕ → Said × Option ℕ × Record
setup b s = let q = opened (B.Setup (setup_of b 4 0 false 2)) (4 ∷ 9 ∷ []) s in (said q.answer, deadline_in q.answer, q.next)

pub setups :
    map (λ (b : Bcsm). map (setup b) (any ∷ only8 ∷ [])) kinds
    ≡ ((interrupts (2 ╱ 1), None, begins Originating H.Trigger) ∷ (silent, Some 1300, begins Originating H.None) ∷ [])
    ∷ ((interrupts (12 ╱ 1), None, begins Terminating H.Trigger) ∷ (silent, Some 1300, begins Terminating H.None) ∷ [])
    ∷ []
unfolding all contains same item_in_range fields_of profile_bytes profile_in_range numbers_at numbers_end view_at profile_of is_profile some_matches triggers some_armed early_of set_up_of open_of
setups = refl

-- "call not open (all but Setup)"; "item malformed" and "profile malformed" of a Setup
pub not_open_lem :
    map (λ (b : Body). refusal (opened b [] any).answer) (events ++ (B.PeriodOver One ∷ B.Continue ∷ B.Release ∷ B.ApplyCharging One (record { 0 = 600 }) ∷ B.ActivityTest ∷ B.Abort ∷ []))
    ++ (refusal (opened (B.RequestReport 1) (entry (9 ╱ 2) 1 0) any).answer ∷ refusal (opened (B.Connect 4 1) (4 ∷ []) any).answer ∷ [])
    ++ flatten (map (λ (b : Bcsm). refusal (opened (B.Setup (setup_of b 128 0 false 1)) (4 ∷ []) []).answer ∷ refusal (opened (B.Setup (setup_of b 4 0 false 1)) (4 ∷ []) []).answer ∷ []) kinds)
    ≡ replicate 17 4 ++ (1 ∷ 2 ∷ 1 ∷ 2 ∷ [])
unfolding flatten all contains same item_in_range fields_of profile_bytes profile_in_range numbers_at numbers_end view_at profile_of is_profile early_of set_up_of open_of
not_open_lem = refl

-- any item for any record: 1 before 3, 3 before 5 and 7; the points of the call's kind
pub stepped :
    map (λ (x : Record × ℕ × Body). refusal (step_of x.0 (record { call = 7; time = record { 0 = x.1 }; body = x.2 }) []).answer)
    ((timed Originating 9, 1000, B.Busy 128) ∷ (timed Originating 9, 999, B.Busy 17) ∷ (timed Originating 10, 999, B.Busy 17) ∷ (timed Originating 10, 281474976710656, B.Answer) ∷ (timed Originating 10, 1000, B.Busy 17) ∷ (timed Originating 10, 1000, B.MidCall 1)
    ∷ (at Originating Analysing (H.At P.RouteFailure) nothing, 1000, B.Release) ∷ (at Terminating Analysing (H.At P.RouteFailure) nothing, 1000, B.Release) ∷ [])
    ≡ 1 ∷ 3 ∷ 7 ∷ 1 ∷ 12 ∷ 0 ∷ 0 ∷ 3 ∷ []
unfolding all places_in_range number_in_range in_range_of item_in_range some_armed met respond_in step_of
stepped = refl
