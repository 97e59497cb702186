-- The types that the code declares, here and in `forms`, under one name for the definitions; and the description of a point set, which the code has as functions.
use Rattle.std.specs.Prelude.{List, Option, Result, ⊤}
pub use Rattle.forms.specs.declared.item.Bcsm.{Bcsm}
pub use Rattle.forms.specs.declared.item.Body.{Body}
pub use Rattle.forms.specs.declared.item.Entry.{Entry}
pub use Rattle.forms.specs.declared.item.Item.{Item}
pub use Rattle.forms.specs.declared.item.Leg.{Leg}
pub use Rattle.forms.specs.declared.item.Setup.{Setup}
pub use Rattle.forms.specs.declared.profile.Criterion.{Criterion}
pub use Rattle.forms.specs.declared.profile.Handling.{Handling}
pub use Rattle.forms.specs.declared.refusal.Refusal.{Refusal}
pub use Rattle.forms.specs.declared.units.Seconds.{Seconds}
pub use Rattle.forms.specs.declared.units.Tenths.{Tenths}
pub use Rattle.call.specs.declared.answers.Outcome.{Outcome}
pub use Rattle.call.specs.declared.answers.Report.{Report}
pub use Rattle.call.specs.declared.answers.Reports.{Reports}
pub use Rattle.call.specs.declared.answers.Stepped.{Stepped as SteppedBy}
pub use Rattle.call.specs.declared.armings.Arming.{Arming}
pub use Rattle.call.specs.declared.armings.Mode.{Mode}
pub use Rattle.call.specs.declared.events.Event.{Event}
pub use Rattle.call.specs.declared.kind.Kind.{Kind}
pub use Rattle.call.specs.declared.points.Point.{Point}
pub use Rattle.call.specs.declared.points.RolePoints.{RolePoints}
pub use Rattle.call.specs.declared.record.Charge.{Charge}
pub use Rattle.call.specs.declared.record.Clock.{Clock}
pub use Rattle.call.specs.declared.record.Hold.{Hold}
pub use Rattle.call.specs.declared.record.LegState.{LegState}
pub use Rattle.call.specs.declared.record.Number.{Number}
pub use Rattle.call.specs.declared.record.Presence.{Presence}
pub use Rattle.call.specs.declared.record.Record.{Record}
pub use Rattle.call.specs.declared.relationship.Relationship.{Relationship}
pub use Rattle.call.specs.declared.roles.Part.{Part}
pub use Rattle.call.specs.declared.roles.Role.{Role}
pub use Rattle.call.specs.declared.setup.Opening.{Opening}
pub use Rattle.call.specs.declared.stages.Span.{Span}
pub use Rattle.call.specs.declared.stages.Stage.{Stage}

-- an answer: what is said of an accepted item, or the refusal. R is the type of the refusals: forms' `Refusal` in all that the rules answer.
abbrev pub AnswerBy : Type 0 → Type 0
AnswerBy R = Result Outcome R

abbrev pub Answer : Type 0
Answer = AnswerBy Refusal

-- an answer, and the record that remains
abbrev pub Stepped : Type 0
Stepped = SteppedBy Refusal

-- what a list of refusals comes to: nothing, or the first that applies
abbrev pub Check : Type 0
Check = Result ⊤ Refusal

-- what comes before any call is looked at: a refusal, a Setup with what its profile says, or any other item
abbrev pub Early : Type 0
Early = Result (Option Opening) Refusal

-- the trigger's point, and the points of the roles, in their order; a role that is not armable has the number 0
pub record PointSet : Type 0 where
  pub trigger : Point
  pub points : List Point
