-- No orphan (T-05): a call whose leg has gone waits for instructions, so that somebody decides what becomes of it. It holds of every record that a run from a fresh table reaches: `table`, specs/NoOrphan.antt.
use Rattle.std.specs.Prelude.{true, ◌≡◌}
use Rattle.forms.specs.declared.item.Leg.TheVariants.{One, Two}
use Rattle.call.specs.Types.{LegState, Hold, Record}
use Rattle.call.specs.declared.stages.Stage.TheVariants.{Analysing}
use Rattle.call.specs.declared.record.Presence.TheVariants.{Absent, Present}
use Rattle.call.specs.declared.record.Hold.TheVariants as hold
use Rattle.call.specs.Record.{no_charge, is_held, leg_at}

-- an absent leg means held and has no charge
abbrev pub AbsentMeansHeld : Hold → LegState → Type 0
AbsentMeansHeld h l = l.presence ≡ Absent → (is_held h ≡ true) × (l.charge ≡ no_charge)

pub record NoOrphan (r : Record) : Type 0 where
  pub leg1 : AbsentMeansHeld r.hold (leg_at One r)
  pub leg2 : AbsentMeansHeld r.hold (leg_at Two r)
  -- held at the trigger means both legs and analysing
  pub trigger : r.hold ≡ hold.Trigger → (r.leg1 ≡ Present) × (r.leg2 ≡ Present) × (r.stage ≡ Analysing)
