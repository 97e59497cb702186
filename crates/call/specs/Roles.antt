-- Document 01, One call: stages, and what belongs to a role whatever its leg and its number are: when it is met, when it can still occur, whether its leg leaves.
-- A role is what an armable pair of leg and detection point (an EDP) stands for. `Points.antt` has the pairs.
use Rattle.std.specs.Prelude.{ℕ, List, [], ◌∷◌, Bool, true, false, not, cond, ◌&&◌, ◌||◌, eqb}
use Rattle.call.specs.Types.{Role, Part, Span, Stage}
use Rattle.call.specs.declared.roles.Role.TheVariants.{MidCall, Disconnect1, Abandon, Moved, RouteFailure, Busy, NoAnswer, Answer, Disconnect2, Seized}
use Rattle.call.specs.declared.stages.Span.TheVariants as span
use Rattle.call.specs.declared.stages.Stage.TheVariants.{Analysing, Alerting, Active}

-- ---- stages (each one or more PICs), and spans of them

abbrev pub is_analysing : Stage → Bool
is_analysing Analysing = true
is_analysing Alerting = false
is_analysing Active = false

abbrev pub is_active : Stage → Bool
is_active Analysing = false
is_active Alerting = false
is_active Active = true

abbrev pub spans : Span → Stage → Bool
spans span.Analysing s = is_analysing s
spans span.BeforeActive s = not (is_active s)
spans span.Active s = is_active s
spans span.PastAnalysing s = not (is_analysing s)
spans span.Always s = true

-- ---- the table of roles. Its columns:
-- met: "Points 4 and 19 need analysing; 5, 6, 7 analysing or alerting; 8 active; 50 alerting or active. Clear of leg 1 is Abandon before active, Disconnect when active; Clear of leg 2 needs active."
-- occurs, for Request report: "4 and 19 in analysing, 5, 6, 7, 10 before active, the rest always"
-- leaves: "The first and last rows [of what a met point disarms] also make that leg absent."

abbrev pub part : Span → Span → Bool → Part
part met occurs leaves = record { met = met; occurs = occurs; leaves = leaves }

abbrev pub part_of : Role → Part
part_of MidCall = part span.Active span.Always false
part_of Disconnect1 = part span.Active span.Always true
part_of Abandon = part span.BeforeActive span.BeforeActive true
part_of Moved = part span.PastAnalysing span.Always false
part_of RouteFailure = part span.Analysing span.Analysing true
part_of Busy = part span.BeforeActive span.BeforeActive true
part_of NoAnswer = part span.BeforeActive span.BeforeActive true
part_of Answer = part span.BeforeActive span.BeforeActive false
part_of Disconnect2 = part span.Active span.Always true
part_of Seized = part span.Analysing span.Analysing false

abbrev pub met_in : Role → Stage → Bool
met_in p s = spans (part_of p).met s

abbrev pub occurs_from : Role → Stage → Bool
occurs_from p s = spans (part_of p).occurs s

abbrev pub loses_leg : Role → Bool
loses_leg p = (part_of p).leaves

-- ---- the ten roles

abbrev pub roles : List Role
roles = MidCall ∷ Disconnect1 ∷ Abandon ∷ Moved ∷ RouteFailure ∷ Busy ∷ NoAnswer ∷ Answer ∷ Disconnect2 ∷ Seized ∷ []

-- the place of a role in that list, of its point in a point set, and of its arming among the ten
abbrev pub place_of : Role → ℕ
place_of MidCall = 0
place_of Disconnect1 = 1
place_of Abandon = 2
place_of Moved = 3
place_of RouteFailure = 4
place_of Busy = 5
place_of NoAnswer = 6
place_of Answer = 7
place_of Disconnect2 = 8
place_of Seized = 9

abbrev pub is_role : Role → Role → Bool
is_role p q = eqb (place_of p) (place_of q)

-- the role q is one of ps
abbrev pub is_among : Role → List Role → Bool
is_among q [] = false
is_among q (p ∷ ps) = is_role q p || is_among q ps

-- the test f holds of every role in the list
abbrev pub every : (Role → Bool) → List Role → Bool
every f [] = true
every f (p ∷ ps) = f p && every f ps

-- "Seized makes the stage alerting, Answer active."
abbrev pub stage_after : Role → Stage → Stage
stage_after p s = cond (is_role p Seized) Alerting (cond (is_role p Answer) Active s)
