-- Laws of one call, for a reader: what having no relationship means, charges and their clocks, what a lost leg disarms, what an Answer leaves armed, the called party's hanging up while the call is held, the order of the refusals, the kept timer, what an item does to its call, and that the call's kind never changes.
use Prim.Native.Nat.{ℕ, zero, suc, ◌-◌, ◌≤◌}
use mathlib.Core.Path.{◌≡◌, refl, sym, ap, ◌∙◌}
use mathlib.Core.Logic.{◌↔◌}
use mathlib.Core.Bool.{Bool, true, false, not, cond, ◌&&◌, ◌||◌, and-true, and-false, or-true, or-false, true≢false, false≢true}
use mathlib.Core.List.{List, [], ◌∷◌}
use native.Mathlib.Omega.{arith}
use lib.Dec.{ltb}
use lib.ListN.{length, get_or}
use borrow.Author.Tests.{not-false}
use Rattle.std.specs.Prelude.{Option, Some, None, Ok, Err}
use Rattle.forms.specs.Refusal.{number_of as refusal_number}
use Rattle.forms.specs.Item.{item_in_range}
use Rattle.forms.specs.Units.{is_clock_reading}
use Rattle.call.specs.Types.{Item, Tenths, Leg, PointSet, Role, Stage, Mode, Clock, Charge, LegState, Arming, Hold, Record, Refusal, Relationship, Reports, Answer, Stepped, Check, Event, Kind}
use Rattle.forms.specs.declared.item.Leg.TheVariants.{One, Two}
use Rattle.forms.specs.declared.item.Body.TheVariants as body
use Rattle.call.specs.declared.roles.Role.TheVariants as role
use Rattle.call.specs.declared.stages.Stage.TheVariants.{Active}
use Rattle.call.specs.declared.armings.Mode.TheVariants as mode
use Rattle.call.specs.declared.record.Hold.TheVariants as hold
use Rattle.call.specs.declared.record.Presence.TheVariants.{Absent}
use Rattle.call.specs.declared.record.Clock.TheVariants as clock
use Rattle.call.specs.declared.relationship.Relationship.TheVariants as relationship
use Rattle.forms.specs.declared.refusal.Refusal.TheVariants.{CallOpen, Impossible}
use Rattle.call.specs.declared.events.Event.TheVariants as event
use Rattle.call.specs.declared.kind.Kind.TheVariants as kind
use Rattle.forms.specs.Profile.{is_release}
use Rattle.call.specs.Roles.{roles, is_role, is_active, loses_leg, every}
use Rattle.call.specs.Armings.{is_mode, some_armed, nothing_armed, unarmed, mode_at}
use Rattle.call.specs.Points.{set_of, is_on_leg, leaves, disarms, is_point_set}
use Rattle.call.specs.Record.{leg, no_charge, waiting, running, is_present, is_pending, is_started, is_held, is_trigger, blank, no_timer, number_of, leg_at, timed, armed_as}
use Rattle.call.specs.Charging.{answered_as, answered, granted, report_as, report_of}
use Rattle.call.specs.Relationship.{relationship_of, is_related}
use Rattle.call.specs.Answers.{Row, is_accepted, remains, first_of, reports, silent, goes_on, quietly, ended, refused, guarded}
use Rattle.call.specs.Events.{is_clear, role_of, can_meet, event_report, hold_after, leg_after, ends_call, met_record, met}
use Rattle.call.specs.Operations.{after, route_timer, routed, resumed, continued, connected, dropped, aborted, charged, report_on, charge_applied}
use Rattle.call.specs.Request.{entries_of, armed_with}
use Rattle.call.specs.Kind.{kind_of}
use Rattle.call.specs.Range.{record_in_range}
use Rattle.call.specs.Refusals.{row1_time, rows_of}
use Rattle.call.specs.Step.{served, respond_in, respond_of, step_of}
use Rattle.call.proofs.Laws.{on_cond, on_guard, passes, no_row, armed_keeps, entries_keep_kind, armed_in_lem}
use Rattle.call.proofs.PointLaws.{every_same, below, disarm_these, disarmed_length, is_past, answer_row, lost_leg, busy_leg, disconnect_point, disconnect_leg}

-- ---- relationship

-- not held, nothing armed, no charge pending
abbrev pub is_idle : Record → Bool
is_idle r = not (is_held r.hold) && nothing_armed r.armings && not (is_pending r.clock1) && not (is_pending r.clock2)

-- control and monitor are not none
related : (x : Relationship) → is_related x ≡ true → (x ≡ relationship.None) ↔ (false ≡ true)
related x h = (λ e. sym (ap is_related e) ∙ h, λ e. absurd (false≢true e))

-- "else none": the relationship is none exactly if the call is not held, nothing is armed and no charge is pending
pub none_exactly : (r : Record) → (relationship_of r ≡ relationship.None) ↔ (is_idle r ≡ true)
none_exactly r =
    rw (armed_in_lem r.armings) (go (is_held r.hold) (some_armed mode.Interrupted r.armings) (some_armed mode.Notify r.armings) (is_pending r.clock1) (is_pending r.clock2))
  where
    go : (held interrupted notify one two : Bool)
        → (cond (held || interrupted) relationship.Control (cond (notify || (one || two)) relationship.Monitor relationship.None) ≡ relationship.None)
        ↔ ((not held && (not interrupted && not notify) && not one && not two) ≡ true)
    go true interrupted notify one two = related relationship.Control refl
    go false true notify one two = related relationship.Control refl
    go false false true one two = related relationship.Monitor refl
    go false false false true two = related relationship.Monitor refl
    go false false false false true = related relationship.Monitor refl
    go false false false false false = (λ e. refl, λ e. refl)

-- ---- charging

-- the time in a charge's report, 0 where there is none
abbrev pub elapsed_in : Option Tenths → ℕ
elapsed_in None = 0
elapsed_in (Some t) = t.0

-- an elapsed time never exceeds its period
pub elapsed_within : (t : Tenths) (c : Charge) → elapsed_in (report_of t c) ≤ c.period.0
elapsed_within t c = go c.clock
  where
    go : (k : Clock) → elapsed_in (report_as k t c) ≤ c.period.0
    go clock.None = omega arith
    go clock.Waiting = omega arith
    go clock.Running = omega arith

-- nor the time since its start
pub elapsed_since : (t period start : Tenths) → elapsed_in (report_of t (running period start)) ≤ t.0 - start.0
elapsed_since t period start = omega arith

-- "0 if not started"
pub elapsed_unstarted : (t : Tenths) (c : Charge) → is_started c.clock ≡ false → elapsed_in (report_of t c) ≡ 0
elapsed_unstarted t c = go c.clock
  where
    go : (k : Clock) → is_started k ≡ false → elapsed_in (report_as k t c) ≡ 0
    go clock.None h = refl
    go clock.Waiting h = refl
    go clock.Running h = absurd (true≢false h)

-- a charge that is accepted before the Answer waits: its clock does not run
pub granted_waits : (s : Stage) (period t : Tenths) → is_active s ≡ false → granted s period t ≡ waiting period
granted_waits s period t h = rw h

-- so the record that an Apply charging leaves before the Answer
pub applied_waits : (dp : PointSet) (r : Record) (l : Leg) (period t : Tenths) → is_active r.stage ≡ false → (leg_at l (charge_applied dp r l period t).next).charge ≡ waiting period
applied_waits dp r One period t h = granted_waits r.stage period t h
applied_waits dp r Two period t h = granted_waits r.stage period t h

-- "never restarts": an Answer leaves a started clock as it is
pub answered_once : (t : Tenths) (c : Charge) → is_started c.clock ≡ true → answered t c ≡ c
answered_once t c = go c.clock
  where
    go : (k : Clock) → is_started k ≡ true → answered_as k t c ≡ c
    go clock.None h = refl
    go clock.Waiting h = absurd (false≢true h)
    go clock.Running h = refl

-- no event but Answer starts a clock: a leg that stays keeps its charge as it was
pub clock_kept : (dp : PointSet) (p : Role) (l : Leg) (t : Tenths) (s : LegState) → is_role p role.Answer ≡ false → leaves dp p l ≡ false → leg_after dp p l t s ≡ s
clock_kept dp p l t s h k = rw (k, h)

-- ---- the kept timer

-- "used once": once a call is routed no timer is kept
pub routed_keeps_none : (dp : PointSet) (r : Record) (t : Tenths) → (routed dp r t).next.kept ≡ no_timer
routed_keeps_none dp r t = refl

-- ---- refusals

-- each number is greater than the one before
abbrev pub rising : List Row → Bool
rising [] = true
rising (x ∷ []) = true
rising (x ∷ y ∷ l) = ltb (refusal_number x.refusal) (refusal_number y.refusal) && rising (y ∷ l)

-- "Checked in this order": the numbers of the rows that an item meets rise, whatever it asks
pub rows_rise : (dp : PointSet) (r : Record) (k : Kind) (t : Tenths) (rest : List ℕ) → rising (row1_time t ∷ rows_of dp r k t rest) ≡ true
rows_rise dp r (kind.Setup s) t rest = refl
rows_rise dp r (kind.Event e) t rest = refl
rows_rise dp r (kind.PeriodOver l) t rest = refl
rows_rise dp r (kind.RequestReport n) t rest = refl
rows_rise dp r kind.Continue t rest = refl
rows_rise dp r (kind.Connect nature count) t rest = refl
rows_rise dp r kind.Release t rest = refl
rows_rise dp r (kind.ApplyCharging l period) t rest = refl
rows_rise dp r kind.ActivityTest t rest = refl
rows_rise dp r kind.Abort t rest = refl

-- an accepted item passed the rows
pub not_refused : (c : Check) (r : Record) (s : Stepped) → is_accepted (guarded c r s).answer ≡ true → c ≡ Ok tt
not_refused (Ok tt) r s h = refl
not_refused (Err n) r s h = absurd (false≢true h)

-- ---- armings

-- nothing is armed exactly if nothing is at the first n places, where there are no more
unarmed_below : (n : ℕ) (a : List Arming) → length a ≤ n → nothing_armed a ≡ below n (λ i. is_mode (get_or a i unarmed).mode mode.None)
unfolding nothing_armed
unarmed_below zero [] h = refl
unarmed_below zero (x ∷ a) h = absurd (omega arith)
unarmed_below (suc n) [] h = unarmed_below n [] (omega arith)
unarmed_below (suc n) (x ∷ a) h = ap (λ b. is_mode x.mode mode.None && b) (unarmed_below n a (omega arith))

-- so with the ten roles, one for each arming
unarmed_roles : (a : List Arming) → length a ≡ 10 → nothing_armed a ≡ every (λ p. is_mode (mode_at p a) mode.None) roles
unarmed_roles a ten = unarmed_below 10 a (omega (arith, ten))

-- ---- a lost leg

abbrev pub is_over : Answer → Bool
is_over (Ok o) = o.over
is_over (Err n) = false

-- a refusal carries no reports
abbrev pub reports_of : Answer → Reports
reports_of (Ok o) = o.reports
reports_of (Err n) = silent

-- of a choice with an end, what is not over is the other
goes_on_lem : (b : Bool) (x y : Stepped) → is_over x.answer ≡ true → is_over (cond b x y).answer ≡ false → cond b x y ≡ y
goes_on_lem true x y e h = absurd (true≢false (sym e ∙ h))
goes_on_lem false x y e h = refl

-- a role that loses its leg disarms that leg's points, in the record that is left where the call goes on, and leaves every point of the other as it was
pub lost_leg_met : (dp : PointSet) → is_point_set dp ≡ true → (r : Record) (p q : Role) (l : Leg) (t : Tenths) → leaves dp p l ≡ true → is_over (met dp r p t).answer ≡ false
    → mode_at q (met dp r p t).next.armings ≡ cond (is_on_leg dp q l) mode.None (mode_at q r.armings)
unfolding met
lost_leg_met dp fit r p q l t h k = ap (λ s. mode_at q s.next.armings) (goes_on_lem (ends_call p (mode_at p r.armings) r.hold) _ _ refl k) ∙ lost_leg dp fit p q l r.armings h

-- P9 for every record: Busy leaves each leg 1 arming as it was
pub busy_spares_caller : (dp : PointSet) → is_point_set dp ≡ true → (r : Record) (q : Role) (t : Tenths) → is_on_leg dp q Two ≡ false → is_over (met dp r role.Busy t).answer ≡ false
    → mode_at q (met dp r role.Busy t).next.armings ≡ mode_at q r.armings
busy_spares_caller dp fit r q t e h = lost_leg_met dp fit r role.Busy q Two t (busy_leg dp fit) h ∙ ap (λ b. cond b mode.None (mode_at q r.armings)) e

-- ---- a met point: the hold, and the end of the call

-- "The call is held exactly if the mode was 0": or was before (T-05)
pub held_exactly : (p : Role) (m : Mode) (earlier : Hold) → is_held (hold_after p m earlier) ≡ (is_mode m mode.Interrupted || is_held earlier)
held_exactly p mode.None earlier = refl
held_exactly p mode.Interrupted earlier = refl
held_exactly p mode.Notify earlier = refl

-- a hold at the trigger is a hold
pub trigger_held : (h : Hold) → is_trigger h ≡ true → is_held h ≡ true
trigger_held hold.None e = e
trigger_held hold.Trigger e = refl
trigger_held (hold.At p) e = refl

-- "If a leg became absent and the mode was not 0, the call is over": but for Disconnect of leg 2 while held (T-05)
pub ends_exactly : (p : Role) (m : Mode) (earlier : Hold) → (is_role p role.Disconnect2 && is_held earlier) ≡ false → ends_call p m earlier ≡ (loses_leg p && not (is_mode m mode.Interrupted))
ends_exactly p mode.None earlier h = rw h
ends_exactly p mode.Interrupted earlier h = sym (and-false (loses_leg p))
ends_exactly p mode.Notify earlier h = rw h

-- ---- an accepted event: it meets its role, and while held it is a Clear

module _ (dp : PointSet) (r : Record) (i : Item) (rest : List ℕ) (e : Event) (is-event : kind_of i.body ≡ kind.Event e) (accepted : is_accepted (respond_in dp r i rest).answer ≡ true) where
  abbrev rows : List Row
  rows = row1_time i.time ∷ rows_of dp r (kind.Event e) i.time rest

  no_refusal : first_of rows ≡ Ok tt
  unfolding respond_in
  no_refusal = not_refused (first_of rows) r (served dp r (kind.Event e) i.time rest) (rw is-event at accepted)

  event_met : respond_in dp r i rest ≡ met dp r (role_of e r.stage) i.time
  unfolding respond_in
  event_met = rw (is-event, no_refusal)

  held_clears : (is_held r.hold && not (is_clear e)) ≡ false
  held_clears = no_row rows no_refusal 2

-- ---- an answered call (T-01)

-- Answer makes no charge pending and removes none
answered_pending : (t : Tenths) (c : Charge) → is_pending (answered t c).clock ≡ is_pending c.clock
answered_pending t c = go c.clock refl
  where
    go : (k : Clock) → c.clock ≡ k → is_pending (answered_as k t c).clock ≡ is_pending k
    go clock.None e = rw e
    go clock.Waiting e = refl
    go clock.Running e = rw e

-- Answer is not armed in mode 0, nothing is armed that an active call can meet, no charge is pending
abbrev pub is_idle_once_answered : Record → Bool
is_idle_once_answered r =
    not (is_mode (mode_at role.Answer r.armings) mode.Interrupted) && every (λ q. is_past q || is_mode (mode_at q r.armings) mode.None) roles
    && not (is_pending r.clock1) && not (is_pending r.clock2)

-- the item i is an Answer, and accepted. (Of either kind of call: `respond_of r` is `respond_in (set_of r.bcsm) r`.)
module _ (dp : PointSet) (r : Record) (i : Item) (rest : List ℕ) (is-answer : i.body ≡ body.Answer) (accepted : is_accepted (respond_in dp r i rest).answer ≡ true) where
  abbrev m : Mode
  m = mode_at role.Answer r.armings

  abbrev next : Record
  next = (respond_in dp r i rest).next

  next_met : next ≡ met_record dp r role.Answer m i.time
  unfolding met
  next_met = ap (λ s. s.next) (event_met dp r i rest event.Answer (ap kind_of is-answer) accepted) ∙ rw (ends_exactly role.Answer m r.hold refl)

  -- no Answer comes while held, so its mode alone decides
  next_held : is_held next.hold ≡ is_mode m mode.Interrupted
  next_held =
      let free : is_held r.hold ≡ false = sym (and-true (is_held r.hold)) ∙ held_clears dp r i rest event.Answer (ap kind_of is-answer) accepted in
      ap (λ s. is_held s.hold) next_met ∙ held_exactly role.Answer m r.hold ∙ rw free (or-false (is_mode m mode.Interrupted))

  pub answered_active : next.stage ≡ Active
  answered_active = ap (λ s. s.stage) next_met

  -- nothing is armed that an active call cannot meet; the rest is armed as it was
  pub answered_armings : (q : Role) → mode_at q next.armings ≡ cond (is_past q) mode.None (mode_at q r.armings)
  answered_armings q = rw (next_met, disarm_these (disarms dp role.Answer) q r.armings, answer_row dp q)

  idle_answered : length r.armings ≡ 10 → is_idle next ≡ is_idle_once_answered r
  idle_answered ten = rw (left, next_held, next_met, answered_pending i.time (leg_at One r).charge, answered_pending i.time (leg_at Two r).charge)
    where
      wiped : (past : Bool) (n : Mode) → is_mode (cond past mode.None n) mode.None ≡ (past || is_mode n mode.None)
      wiped true n = refl
      wiped false n = refl

      left : nothing_armed next.armings ≡ every (λ q. is_past q || is_mode (mode_at q r.armings) mode.None) roles
      left =
          unarmed_roles next.armings (ap (λ s. length s.armings) next_met ∙ disarmed_length (disarms dp role.Answer) r.armings ∙ ten)
          ∙ every_same _ _ (λ q. ap (λ n. is_mode n mode.None) (answered_armings q) ∙ wiped (is_past q) (mode_at q r.armings)) roles

  -- so the relationship is none exactly if the record before was so (a record has ten armings)
  pub answered_none : length r.armings ≡ 10 → (relationship_of next ≡ relationship.None) ↔ (is_idle_once_answered r ≡ true)
  answered_none ten = rw (← idle_answered ten) (none_exactly next)

-- ---- the called party hangs up while the call is held (T-05)

-- a held call does not end
held_goes_on : (m : Mode) (earlier : Hold) → is_held earlier ≡ true → ends_call role.Disconnect2 m earlier ≡ false
held_goes_on m earlier h = rw (h, and-false (not (is_mode m mode.Interrupted) && true))

-- Continue ends a held call whose leg 2 is absent: held means control, so row 8 does not apply either
continue_ends : (dp : PointSet) (s : Record) (j : Item) (more : List ℕ) → is_held s.hold ≡ true → s.leg2 ≡ Absent → j.body ≡ body.Continue → is_clock_reading j.time ≡ true → ltb j.time.0 s.last.0 ≡ false
    → respond_in dp s j more ≡ ended s None j.time
unfolding respond_in continued
continue_ends dp s j more held gone is-continue clock late = rw (is-continue, clock, late, held, gone, and-false (is_present s.leg1))

-- "accepted …, if active and leg 2 is present", and exactly then, held or not: in time, no other row applies
pub clear_accepted : (dp : PointSet) → is_point_set dp ≡ true → (r : Record) (i : Item) (rest : List ℕ) (cause : ℕ) → i.body ≡ body.Clear Two cause → is_clock_reading i.time ≡ true → ltb i.time.0 r.last.0 ≡ false
    → is_accepted (respond_in dp r i rest).answer ≡ (is_active r.stage && is_present r.leg2)
unfolding respond_in met
clear_accepted dp fit r i rest cause is-clear clock late =
    let met_exactly : is_accepted (respond_in dp r i rest).answer ≡ can_meet dp r role.Disconnect2 = rw (is-clear, clock, late, and-false (is_held r.hold)) (go (can_meet dp r role.Disconnect2)) in
    let can_exactly : can_meet dp r role.Disconnect2 ≡ (is_active r.stage && is_present r.leg2) = rw ((disconnect_point dp fit).0, (disconnect_point dp fit).1, and-true (is_active r.stage)) in
    met_exactly ∙ can_exactly
  where
    go : (b : Bool) → is_accepted (guarded (cond (not b) (Err Impossible) (Ok tt)) r (met dp r role.Disconnect2 i.time)).answer ≡ b
    go true = on_cond (λ (s : Stepped). is_accepted s.answer ≡ true) (ends_call role.Disconnect2 (mode_at role.Disconnect2 r.armings) r.hold) _ _ refl refl
    go false = refl

module _ (dp : PointSet) (r : Record) (i : Item) (rest : List ℕ) (cause : ℕ) (is-clear : i.body ≡ body.Clear Two cause) (held : is_held r.hold ≡ true) where
  abbrev disconnect : Mode
  disconnect = mode_at role.Disconnect2 r.armings

  abbrev cleared : Stepped
  cleared = respond_in dp r i rest

  -- refused or accepted, the call neither ends nor loses its hold
  abbrev StaysHeld : Stepped → Type 0
  StaysHeld s = (is_over s.answer ≡ false) × (is_held s.next.hold ≡ true)

  pub stays_held : StaysHeld cleared
  unfolding respond_in met
  stays_held =
      rw is-clear (on_guard StaysHeld (first_of (row1_time i.time ∷ rows_of dp r (kind.Event (event.Clear Two)) i.time rest)) r (met dp r role.Disconnect2 i.time) (λ n. (refl, held))
      (λ e. rw (held_goes_on disconnect r.hold held) (refl, held_exactly role.Disconnect2 disconnect r.hold ∙ rw held (or-true (is_mode disconnect mode.Interrupted)))))

  module _ (fit : is_point_set dp ≡ true) (accepted : is_accepted cleared.answer ≡ true) where
    -- what it leaves
    next_cleared : cleared.next ≡ met_record dp r role.Disconnect2 disconnect i.time
    unfolding met
    next_cleared = ap (λ s. s.next) (event_met dp r i rest (event.Clear Two) (ap kind_of is-clear) accepted) ∙ rw (held_goes_on disconnect r.hold held)

    -- "Armed for interruption: …, the hold moves to Disconnect leg 2. For notification: …, the hold stays. Unarmed: it stays."
    pub cleared_hold : cleared.next.hold ≡ cond (is_mode disconnect mode.Interrupted) (hold.At role.Disconnect2) r.hold
    cleared_hold = ap (λ s. s.hold) next_cleared

    -- "In all three leg 2 becomes absent"; leg 1 stays as it was, and its charge runs on
    pub cleared_legs : (leg_at Two cleared.next ≡ leg Absent no_charge) × (leg_at One cleared.next ≡ leg_at One r)
    cleared_legs = (ap (leg_at Two) next_cleared ∙ rw (disconnect_leg dp fit Two), ap (leg_at One) next_cleared ∙ rw (disconnect_leg dp fit One))

    -- "its points are disarmed", and leg 1's stay armed
    pub cleared_armings : (q : Role) → mode_at q cleared.next.armings ≡ cond (is_on_leg dp q Two) mode.None (mode_at q r.armings)
    cleared_armings q = ap (λ s. mode_at q s.armings) next_cleared ∙ lost_leg dp fit role.Disconnect2 q Two r.armings (disconnect_leg dp fit Two)

    -- reported by its mode; "its charge is reported", and no other
    pub cleared_reports : reports_of cleared.answer ≡ reports (event_report dp role.Disconnect2 disconnect) None (report_of i.time (leg_at Two r).charge)
    unfolding met
    cleared_reports =
        ap (λ s. reports_of s.answer) (event_met dp r i rest (event.Clear Two) (ap kind_of is-clear) accepted) ∙ rw (held_goes_on disconnect r.hold held, disconnect_leg dp fit One, disconnect_leg dp fit Two)

    -- "Continue then ends the call": an item in time, which no row refuses
    pub then_over : (j : Item) (more : List ℕ) → j.body ≡ body.Continue → is_clock_reading j.time ≡ true → ltb j.time.0 cleared.next.last.0 ≡ false → respond_in dp cleared.next j more ≡ ended cleared.next None j.time
    then_over j more = let gone : cleared.next.leg2 ≡ Absent = ap (λ (s : LegState). s.presence) cleared_legs.0 in continue_ends dp cleared.next j more stays_held.1 gone

-- ---- what an item does to its call: it is refused, meets a role, ends the call, or leaves a record

module _ (dp : PointSet) (r : Record) where
  -- the next record is of the same kind, and held only where the call was
  abbrev pub Follows : Record → Type 0
  Follows next = (next.bcsm ≡ r.bcsm) × (is_held next.hold ≡ true → next.hold ≡ r.hold)

  -- an event is reported only where a role is met
  pub data Does : Stepped → Type 0 where
    refuses : (n : Refusal) → Does (refused r n)
    meets : (p : Role) (t : Tenths) → can_meet dp r p ≡ true → Does (met dp r p t)
    ends : (s : Record) (t : Tenths) → Does (ended s None t)
    goes : (next : Record) (told : Reports) (d : Option Tenths) → told.event ≡ None → Follows next → Does (goes_on dp next told d)

  either : (b : Bool) (x y : Stepped) → Does x → Does y → Does (cond b x y)
  either = on_cond Does

  quietly_does : (next : Record) → Follows next → Does (quietly dp next)
  quietly_does next f = goes next silent None refl f

  routed_does : (s : Record) (t : Tenths) → Follows s → Does (routed dp s t)
  routed_does s t f = goes (armed_as s s.armings no_timer) silent (Some (after t (route_timer s))) refl f

  -- the hold ends
  freed : (s : Record) (t : Tenths) → s.bcsm ≡ r.bcsm → Follows (resumed s t)
  freed s t e = (e, λ h. absurd (false≢true h))

  continued_does : (s : Record) (t : Tenths) → s.bcsm ≡ r.bcsm → Does (continued dp s t)
  unfolding continued
  continued_does s t e =
      either (is_present s.leg1 && is_present s.leg2) _ _
      (either (is_trigger s.hold) _ _ (routed_does (resumed s t) t (freed s t e)) (quietly_does (resumed s t) (freed s t e)))
      (ends s t)

  charged_follows : (l : Leg) (c : Charge) (t : Tenths) → Follows (charged r l c t)
  charged_follows One c t = (refl, λ h. refl)
  charged_follows Two c t = (refl, λ h. refl)

  no_event : (l : Leg) (c : Option Tenths) → (report_on l c).event ≡ None
  no_event One c = refl
  no_event Two c = refl

  served_does : (k : Kind) (t : Tenths) (rest : List ℕ) → first_of (rows_of dp r k t rest) ≡ Ok tt → Does (served dp r k t rest)
  unfolding aborted
  served_does (kind.Setup s) t rest e = refuses CallOpen
  served_does (kind.Event x) t rest e = let p = role_of x r.stage in meets p t (not-false (can_meet dp r p) (no_row (rows_of dp r (kind.Event x) t rest) e 2))
  served_does (kind.PeriodOver l) t rest e = let c = report_of t (leg_at l r).charge in goes (charged r l no_charge t) (report_on l c) None (no_event l c) (charged_follows l no_charge t)
  served_does (kind.RequestReport n) t rest e =
      let es = entries_of n rest in
      quietly_does (armed_with dp (timed r t) es) (entries_keep_kind dp (timed r t) es, λ h. armed_keeps dp (λ s. s.hold) (λ s a k. refl) es (timed r t))
  served_does kind.Continue t rest e = continued_does r t refl
  served_does (kind.Connect n c) t rest e = routed_does (connected r (number_of n c rest) t) t (freed r t refl)
  served_does kind.Release t rest e = ends r t
  served_does (kind.ApplyCharging l p) t rest e = quietly_does (charged r l (granted r.stage p t) t) (charged_follows l (granted r.stage p t) t)
  served_does kind.ActivityTest t rest e = quietly_does (timed r t) (refl, λ h. refl)
  served_does kind.Abort t rest e =
      either (is_release r.handling) _ _ (ends (dropped r) t)
      (either (is_held r.hold) _ _ (continued_does (dropped r) t refl) (quietly_does (timed (dropped r) t) (refl, λ h. refl)))

  pub responds : (i : Item) (rest : List ℕ) → Does (respond_in dp r i rest)
  unfolding respond_in
  responds i rest =
      let k = kind_of i.body in
      let rows = rows_of dp r k i.time rest in
      on_guard Does (first_of (row1_time i.time ∷ rows)) r (served dp r k i.time rest) refuses (λ e. served_does k i.time rest (passes (row1_time i.time).applies (row1_time i.time).refusal (first_of rows) e).1)

-- ---- what remains: "A refusal leaves what is kept", and a call that is over leaves a blank record

abbrev pub Remains : Record → Stepped → Type 0
Remains r s = s.next ≡ remains s.answer r blank s.next

pub respond_remains : (dp : PointSet) (r : Record) (i : Item) (rest : List ℕ) → Remains r (respond_in dp r i rest)
unfolding met
respond_remains dp r i rest = go (responds dp r i rest)
  where
    go : {s : Stepped} → Does dp r s → Remains r s
    go (refuses n) = refl
    go (meets p t e) = on_cond (Remains r) (ends_call p (mode_at p r.armings) r.hold) _ _ refl refl
    go (ends s t) = refl
    go (goes next told d e f) = refl

-- ---- a call's kind never changes while it is open (T-04)

abbrev KeepsKind : Record → Stepped → Type 0
KeepsKind r s = is_over s.answer ≡ false → s.next.bcsm ≡ r.bcsm

kind_kept_in : (dp : PointSet) (r : Record) (i : Item) (rest : List ℕ) → KeepsKind r (respond_in dp r i rest)
unfolding met
kind_kept_in dp r i rest = go (responds dp r i rest)
  where
    go : {s : Stepped} → Does dp r s → KeepsKind r s
    go (refuses n) o = refl
    go (meets p t e) o = on_cond (KeepsKind r) (ends_call p (mode_at p r.armings) r.hold) _ _ (λ o. absurd (true≢false o)) (λ o. refl) o
    go (ends s t) o = absurd (true≢false o)
    go (goes next told d e f) o = f.0

-- an item leaves the record of a call of the same kind, unless the call is over
pub kind_kept : (r : Record) (i : Item) (rest : List ℕ) → is_over (respond_of r i rest).answer ≡ false → (respond_of r i rest).next.bcsm ≡ r.bcsm
kind_kept r = kind_kept_in (set_of r.bcsm) r

-- ---- ranges

-- on a record and an item in range, `step` is `respond`
pub step_respond : (r : Record) (i : Item) (rest : List ℕ) → record_in_range r ≡ true → item_in_range i rest ≡ true → step_of r i rest ≡ respond_of r i rest
unfolding step_of
step_respond r i rest h g = rw (g, h)
