-- An answer (document 01, A call by itself): "the refusal's number, or relationship, point of suspension or none, reports in their order, deadline or none, and whether the call is over". Beside it the record that remains.
use Rattle.std.specs.Prelude.{ℕ, Bool, true, false, cond, List, [], ◌∷◌, Option, Some, None, Ok, Err, option_map}
use Prim.Native.String.{String}
use Rattle.forms.specs.Fields.{leg_number}
use Rattle.forms.specs.Refusal.{number_of}
use Rattle.call.specs.Types.{Tenths, Point, PointSet, Hold, Record, Refusal, Relationship, Report, Reports, Outcome, AnswerBy, Answer, Check, SteppedBy, Stepped}
use Rattle.forms.specs.declared.item.Leg.TheVariants.{One, Two}
use Rattle.call.specs.declared.record.Hold.TheVariants as hold
use Rattle.call.specs.declared.relationship.Relationship.TheVariants as relationship
use Rattle.call.specs.declared.answers.Report.TheVariants as report
use Rattle.call.specs.Points.{point_in}
use Rattle.call.specs.Charging.{report_of}
use Rattle.call.specs.Relationship.{relationship_of}
use Rattle.call.specs.Record.{blank, leg_at}

-- ---- the values of an answer: this paper's numbers and words for each of its cases. (No two answers have the same: proofs/AnswerTheorems.antt.)

abbrev pub relationship_word : Relationship → String
relationship_word relationship.None = "none"
relationship_word relationship.Monitor = "monitor"
relationship_word relationship.Control = "control"

-- a detection point and its leg
pub record Pair : Type 0 where
  pub point : ℕ
  pub leg : ℕ

abbrev pub pair_of : Point → Pair
pair_of q = record { point = q.number; leg = leg_number q.leg }

abbrev pub suspended_at : Option Point → Option Pair
suspended_at q = option_map pair_of q

-- the report of an event: interrupting, or a notification, for a point
pub record EventReport : Type 0 where
  pub interrupting : Bool
  pub met : Pair

abbrev pub reported_as : Report → EventReport
reported_as (report.Interrupting q) = record { interrupting = true; met = pair_of q }
reported_as (report.Notification q) = record { interrupting = false; met = pair_of q }

abbrev pub event_of : Option Report → Option EventReport
event_of e = option_map reported_as e

-- the figure of a charge's report, and the deadline, in tenths
abbrev pub tenths_in : Option Tenths → Option ℕ
tenths_in t = option_map (λ u. u.0) t

-- "relationship, point of suspension or none, reports in their order, deadline or none, and whether the call is over"; "Reports come in this order: event, charge of leg 1, charge of leg 2."
pub record Told : Type 0 where
  pub relationship : String
  pub suspended : Option Pair
  pub event : Option EventReport
  pub charge1 : Option ℕ
  pub charge2 : Option ℕ
  pub deadline : Option ℕ
  pub over : Bool

pub data Values : Type 0 where
  refusal : ℕ → Values
  accepted : Told → Values

abbrev pub told_of : Outcome → Told
told_of o = record {
  relationship = relationship_word o.relationship;
  suspended = suspended_at o.suspension;
  event = event_of o.reports.event;
  charge1 = tenths_in o.reports.charge1;
  charge2 = tenths_in o.reports.charge2;
  deadline = tenths_in o.deadline;
  over = o.over;
}

-- "or the refusal's number", which told_by says
abbrev pub values_by : {R : Type 0} → (R → ℕ) → AnswerBy R → Values
values_by told_by (Err n) = refusal (told_by n)
values_by told_by (Ok o) = accepted (told_of o)

abbrev pub values_of : Answer → Values
values_of a = values_by number_of a

-- ---- answers that go on, and the last one of a call

abbrev pub reports : Option Report → Option Tenths → Option Tenths → Reports
reports event charge1 charge2 = record { event = event; charge1 = charge1; charge2 = charge2 }

abbrev pub silent : Reports
silent = reports None None None

-- the point of suspension: the trigger's ("held at point 2"), or that of the role
abbrev pub suspension_of : PointSet → Hold → Option Point
suspension_of dp hold.None = None
suspension_of dp hold.Trigger = Some dp.trigger
suspension_of dp (hold.At p) = Some (point_in dp p)

-- the call goes on with the record next
abbrev pub goes_on : PointSet → Record → Reports → Option Tenths → Stepped
goes_on dp next reports deadline = record {
  answer = Ok (record { relationship = relationship_of next; suspension = suspension_of dp next.hold; reports = reports; deadline = deadline; over = false });
  next = next;
}

abbrev pub quietly : PointSet → Record → Stepped
quietly dp next = goes_on dp next silent None

-- the call is over at t, with r the record before: "everything disarmed, slot freed", pending charges reported
abbrev pub ended : Record → Option Report → Tenths → Stepped
ended r event t = record {
  answer = Ok (record { relationship = relationship.None; suspension = None; reports = reports event (report_of t (leg_at One r).charge) (report_of t (leg_at Two r).charge); deadline = None; over = true });
  next = blank;
}

-- a refusal is told from what is accepted
abbrev pub is_accepted : Answer → Bool
is_accepted (Ok o) = true
is_accepted (Err n) = false

-- "or nothing when the call is over. A refusal leaves what is kept."
abbrev pub remains : {A : Type 0} → Answer → A → A → A → A
remains (Err n) before over next = before
remains (Ok o) before over next = cond o.over over next

-- "Each returns its number alone and changes nothing."
abbrev pub refused : {R : Type 0} → Record → R → SteppedBy R
refused r n = record { answer = Err n; next = r }

abbrev pub guarded : Check → Record → Stepped → Stepped
guarded (Ok _) r s = s
guarded (Err n) r s = refused r n

-- ---- refusals: "Checked in this order; the first that applies is given and none otherwise."

-- a row of the table: what is told, by its number alone, and whether it applies
pub record Row : Type 0 where
  pub refusal : Refusal
  pub applies : Bool

abbrev pub row : Refusal → Bool → Row
row n applies = record { refusal = n; applies = applies }

abbrev pub first_of : List Row → Check
first_of [] = Ok tt
first_of (x ∷ xs) = cond x.applies (Err x.refusal) (first_of xs)
