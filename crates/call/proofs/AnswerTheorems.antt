-- An answer is read back from its values, so two answers with the same values are the same answer.
use Prim.Native.Nat.{ℕ}
use Prim.Native.Char.{code}
use Prim.Native.String.{String, [] as end, ◌∷◌ as ◌then◌}
use mathlib.Core.Path.{◌≡◌, refl, sym, ap, ◌∙◌}
use mathlib.Core.Bool.{cond}
use mathlib.Core.List.{[], ◌∷◌}
use lib.Dec.{eqb}
use lib.ListN.{get_or}
use Rattle.std.specs.Prelude.{Option, Some, None, Ok, Err, option_map}
use Rattle.forms.specs.Fields.{leg_number}
use Rattle.forms.specs.Refusal.{number_of}
use Rattle.forms.specs.declared.item.Leg.TheVariants.{One, Two}
use Rattle.call.specs.Types.{Leg, Point, Tenths, Refusal, Relationship, Report, Outcome, Answer}
use Rattle.call.specs.declared.relationship.Relationship.TheVariants as relationship
use Rattle.call.specs.declared.answers.Report.TheVariants as report
use Rattle.forms.specs.declared.refusal.Refusal.TheVariants.{MalformedItem, MalformedProfile, DamagedTable, CallNotOpen, CallOpen, TableFull, EarlierTime, NoControl, Held, NotHeld, BadEntry, Impossible, ChargePending, PeriodNotOver, FeederClosed}
use Rattle.call.specs.Points.{at}
use Rattle.call.specs.Answers.{relationship_word, Pair, pair_of, suspended_at, EventReport, reported_as, event_of, tenths_in, Told, Values, refusal, accepted, told_of, values_of, reports}

-- ---- the words: their first letters differ

abbrev initial : String → ℕ
initial end = 0
initial (c then s) = code c

abbrev relationship_from : String → Relationship
relationship_from word = cond (eqb (initial word) 110) relationship.None (cond (eqb (initial word) 109) relationship.Monitor relationship.Control)

word_back : (r : Relationship) → relationship_from (relationship_word r) ≡ r
word_back relationship.None = refl
word_back relationship.Monitor = refl
word_back relationship.Control = refl

-- ---- the parts

abbrev leg_from : ℕ → Leg
leg_from n = cond (eqb n 1) One Two

leg_back : (l : Leg) → leg_from (leg_number l) ≡ l
leg_back One = refl
leg_back Two = refl

abbrev point_from : Pair → Point
point_from q = at (leg_from q.leg) q.point

point_back : (q : Point) → point_from (pair_of q) ≡ q
point_back q = ap (λ l. at l q.number) (leg_back q.leg)

-- what is read back under each option is read back there
option_back : {A B : Type 0} (f : A → B) (g : B → A) → ((x : A) → g (f x) ≡ x) → (o : Option A) → option_map g (option_map f o) ≡ o
option_back f g h None = refl
option_back f g h (Some x) = ap Some (h x)

abbrev suspension_from : Option Pair → Option Point
suspension_from q = option_map point_from q

suspension_back : (s : Option Point) → suspension_from (suspended_at s) ≡ s
suspension_back = option_back pair_of point_from point_back

abbrev report_from : EventReport → Report
report_from e = cond e.interrupting (report.Interrupting (point_from e.met)) (report.Notification (point_from e.met))

report_back : (e : Report) → report_from (reported_as e) ≡ e
report_back (report.Interrupting q) = ap report.Interrupting (point_back q)
report_back (report.Notification q) = ap report.Notification (point_back q)

abbrev event_from : Option EventReport → Option Report
event_from e = option_map report_from e

event_back : (e : Option Report) → event_from (event_of e) ≡ e
event_back = option_back reported_as report_from report_back

abbrev tenths_from : Option ℕ → Option Tenths
tenths_from n = option_map (λ m. record { 0 = m }) n

tenths_back : (t : Option Tenths) → tenths_from (tenths_in t) ≡ t
tenths_back = option_back (λ t. t.0) (λ m. record { 0 = m }) (λ t. refl)

-- ---- the refusals: their numbers differ

-- each at its number
abbrev refusal_from : ℕ → Refusal
refusal_from n =
    get_or
    (FeederClosed ∷ MalformedItem ∷ MalformedProfile ∷ DamagedTable ∷ CallNotOpen ∷ CallOpen ∷ TableFull ∷ EarlierTime ∷ NoControl ∷ Held ∷ NotHeld ∷ BadEntry ∷ Impossible ∷ ChargePending ∷ PeriodNotOver ∷ [])
    n FeederClosed

refusal_back : (n : Refusal) → refusal_from (number_of n) ≡ n
refusal_back MalformedItem = refl
refusal_back MalformedProfile = refl
refusal_back DamagedTable = refl
refusal_back CallNotOpen = refl
refusal_back CallOpen = refl
refusal_back TableFull = refl
refusal_back EarlierTime = refl
refusal_back NoControl = refl
refusal_back Held = refl
refusal_back NotHeld = refl
refusal_back BadEntry = refl
refusal_back Impossible = refl
refusal_back ChargePending = refl
refusal_back PeriodNotOver = refl
refusal_back FeederClosed = refl

-- ---- the whole

abbrev outcome_from : Told → Outcome
outcome_from t = record {
  relationship = relationship_from t.relationship;
  suspension = suspension_from t.suspended;
  reports = reports (event_from t.event) (tenths_from t.charge1) (tenths_from t.charge2);
  deadline = tenths_from t.deadline;
  over = t.over;
}

outcome_back : (o : Outcome) → outcome_from (told_of o) ≡ o
outcome_back o =
    rw (word_back o.relationship, suspension_back o.suspension, event_back o.reports.event, tenths_back o.reports.charge1, tenths_back o.reports.charge2, tenths_back o.deadline)

abbrev answer_from : Values → Answer
answer_from (refusal n) = Err (refusal_from n)
answer_from (accepted t) = Ok (outcome_from t)

answer_back : (a : Answer) → answer_from (values_of a) ≡ a
answer_back (Err n) = ap Err (refusal_back n)
answer_back (Ok o) = ap Ok (outcome_back o)

pub same_answer : (a b : Answer) → values_of a ≡ values_of b → a ≡ b
same_answer a b e = sym (answer_back a) ∙ ap answer_from e ∙ answer_back b
