-- Document 01, One call: an item's answer and the next record, for a call that is open.
use Rattle.std.specs.Prelude.{ℕ, List, [], ◌∷◌, None}
use Rattle.call.specs.Types.{Item, Tenths, PointSet, Record, Stepped, Kind}
use Rattle.forms.specs.declared.refusal.Refusal.TheVariants.{CallOpen}
use Rattle.call.specs.declared.kind.Kind.TheVariants as kind
use Rattle.call.specs.Points.{set_of}
use Rattle.call.specs.Record.{number_of, timed}
use Rattle.call.specs.Answers.{first_of, quietly, ended, refused, guarded}
use Rattle.call.specs.Request.{request_report}
use Rattle.call.specs.Events.{role_of, met}
use Rattle.call.specs.Operations.{routed, continued, connected, aborted, period_over, charge_applied}
use Rattle.call.specs.Kind.{kind_of}
use Rattle.call.specs.Refusals.{row1, row1_time, row3, rows_of}

-- ---- an accepted item's answer and next record; its digits or entries stand in `rest`. (A Setup is not accepted: row 5.)

abbrev pub served : PointSet → Record → Kind → Tenths → List ℕ → Stepped
served dp r (kind.Setup s) t rest = refused r CallOpen
served dp r (kind.Event e) t rest = met dp r (role_of e r.stage) t
served dp r (kind.PeriodOver l) t rest = period_over dp r l t
served dp r (kind.RequestReport n) t rest = request_report dp r n rest t
served dp r kind.Continue t rest = continued dp r t
served dp r (kind.Connect nature count) t rest = routed dp (connected r (number_of nature count rest) t) t
served dp r kind.Release t rest = ended r None t
served dp r (kind.ApplyCharging l period) t rest = charge_applied dp r l period t
served dp r kind.ActivityTest t rest = quietly dp (timed r t)
served dp r kind.Abort t rest = aborted dp r t

-- refusals 5 and 7 to 14, 1 for the time alone, and the answer where none applies
abbrev pub respond_as : PointSet → Record → Kind → Tenths → List ℕ → Stepped
respond_as dp r k t rest = guarded (first_of (row1_time t ∷ rows_of dp r k t rest)) r (served dp r k t rest)

-- an item of a call whose points are dp; and of any call, by its own
unfoldable pub respond_in : PointSet → Record → Item → List ℕ → Stepped
respond_in dp r i rest = respond_as dp r (kind_of i.body) i.time rest

abbrev pub respond_of : Record → Item → List ℕ → Stepped
respond_of r = respond_in (set_of r.bcsm) r

-- any item and any record: 1 for an item out of range, 3 for a record out of range
unfoldable pub step_of : Record → Item → List ℕ → Stepped
step_of r i rest = guarded (first_of (row1 i rest ∷ row3 r ∷ [])) r (respond_of r i rest)
