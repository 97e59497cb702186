-- No orphan (T-05): a call that opens is none, and no item makes one of a call that is none.
use Prim.Native.Nat.{ℕ}
use mathlib.Core.Path.{◌≡◌, refl, sym, ap, ◌∙◌}
use mathlib.Core.Bool.{Bool, true, false, not, cond, ◌&&◌, ◌||◌, or-true, true≢false, false≢true}
use mathlib.Core.List.{List, ◌∷◌}
use borrow.Author.Tests.{not-false}
use Rattle.std.specs.Prelude.{Ok}
use Rattle.forms.specs.Profile.{is_release}
use Rattle.forms.proofs.ByteLaws.{and_left, and_right}
use Rattle.call.specs.Types.{Bcsm, Item, Leg, Handling, Seconds, Tenths, PointSet, Role, Event, Mode, Hold, Charge, LegState, Number, Record, Stepped, Kind}
use Rattle.forms.specs.declared.item.Leg.TheVariants.{One, Two}
use Rattle.call.specs.declared.roles.Role.TheVariants as role
use Rattle.call.specs.declared.events.Event.TheVariants as event
use Rattle.call.specs.declared.stages.Stage.TheVariants.{Analysing}
use Rattle.call.specs.declared.armings.Mode.TheVariants as mode
use Rattle.call.specs.declared.record.Hold.TheVariants as hold
use Rattle.call.specs.declared.record.Presence.TheVariants.{Absent, Present}
use Rattle.call.specs.declared.kind.Kind.TheVariants as kind
use Rattle.call.specs.Roles.{is_role, loses_leg, met_in}
use Rattle.call.specs.Armings.{is_mode, mode_at}
use Rattle.call.specs.Points.{set_of, is_in, is_on_leg, leaves}
use Rattle.call.specs.Record.{no_charge, is_present, is_held, is_trigger, leg_at, timed}
use Rattle.call.specs.Charging.{answered, granted}
use Rattle.call.specs.Answers.{is_accepted, first_of}
use Rattle.call.specs.Events.{is_clear, role_of, can_meet, hold_after, leg_after, ends_call, met}
use Rattle.call.specs.Operations.{can_connect, continued, dropped, aborted, charged}
use Rattle.call.specs.Request.{entries_of}
use Rattle.call.specs.Kind.{kind_of}
use Rattle.call.specs.Refusals.{row1_time, rows_of}
use Rattle.call.specs.Step.{served, respond_in, respond_of}
use Rattle.call.specs.Setup.{begun, open_of}
use Rattle.call.specs.Orphan.{AbsentMeansHeld, NoOrphan}
use Rattle.call.proofs.Laws.{on_cond, by_cond, on_guard, passes, no_row, armed_holds}
use Rattle.call.proofs.CallTheorems.{is_over, held_exactly}
use Rattle.call.proofs.SetupLaws.{on_open}

-- ---- a leg

-- a leg that is there
here : (h : Hold) (l : LegState) → is_present l.presence ≡ true → AbsentMeansHeld h l
here h l e gone = absurd (false≢true (sym (ap is_present gone) ∙ e))

-- where a role is met, the call is held afterwards if it was, or if the leg leaves
leg_after_met : (dp : PointSet) (p : Role) (l : Leg) (t : Tenths) (s : LegState) (h next : Hold) → (is_held h ≡ true → is_held next ≡ true) → (leaves dp p l ≡ true → is_held next ≡ true) → AbsentMeansHeld h s
    → AbsentMeansHeld next (leg_after dp p l t s)
leg_after_met dp p l t s h next stays left a = by_cond (AbsentMeansHeld next) (leaves dp p l) _ _ (λ e gone. (left e, refl)) (λ e gone. (stays (a gone).0, on_cond (λ c. c ≡ no_charge) (is_role p role.Answer) _ _ (ap (answered t) (a gone).1) (a gone).1))

-- ---- a call with both legs: one that is analysing, and one that is not held

both : (r : Record) → r.leg1 ≡ Present → r.leg2 ≡ Present → r.stage ≡ Analysing → NoOrphan r
both r one two s = record { leg1 = here r.hold (leg_at One r) (ap is_present one); leg2 = here r.hold (leg_at Two r) (ap is_present two); trigger = λ k. (one, two, s) }

not_held : (next : Record) → is_present next.leg1 ≡ true → is_present next.leg2 ≡ true → next.hold ≡ hold.None → NoOrphan next
not_held next one two e = record { leg1 = here next.hold (leg_at One next) one; leg2 = here next.hold (leg_at Two next) two; trigger = λ k. absurd (false≢true (sym (ap is_trigger e) ∙ ap is_trigger k)) }

-- ---- a call that is no orphan

module _ (r : Record) (h : NoOrphan r) where
  -- the charge of a leg that is there is replaced, or one is removed
  charged_keeps : (l : Leg) (c : Charge) (t : Tenths) → ((leg_at l r).presence ≡ Absent → c ≡ no_charge) → NoOrphan (charged r l c t)
  charged_keeps One c t g = record { leg1 = λ gone. ((h.leg1 gone).0, g gone); leg2 = h.leg2; trigger = h.trigger }
  charged_keeps Two c t g = record { leg1 = h.leg1; leg2 = λ gone. ((h.leg2 gone).0, g gone); trigger = h.trigger }

  timed_keeps : (t : Tenths) → NoOrphan (timed r t)
  timed_keeps t = record { leg1 = h.leg1; leg2 = h.leg2; trigger = h.trigger }

  dropped_keeps : NoOrphan (dropped r)
  dropped_keeps = record { leg1 = λ gone. ((h.leg1 gone).0, refl); leg2 = λ gone. ((h.leg2 gone).0, refl); trigger = h.trigger }

  -- Connect needs leg 1: it is there where leg 2 alone is not, and at the trigger
  connects : can_connect r ≡ true → is_present r.leg1 ≡ true
  connects = go r.hold refl
    where
      go : (k : Hold) → r.hold ≡ k → (is_trigger k || (is_present r.leg1 && not (is_present r.leg2))) ≡ true → is_present r.leg1 ≡ true
      go hold.None e c = and_left (is_present r.leg1) _ c
      go hold.Trigger e c = ap is_present (h.trigger e).0
      go (hold.At p) e c = and_left (is_present r.leg1) _ c

-- ---- one item

-- it leaves none, unless the call is over
abbrev Keeps : Stepped → Type 0
Keeps s = is_over s.answer ≡ false → NoOrphan s.next

module _ (dp : PointSet) (r : Record) (h : NoOrphan r) where
  -- a Clear while analysing is of leg 1, and ends the call unless its mode is 0
  clear_ends : (e : Event) → is_clear e ≡ true → r.stage ≡ Analysing → can_meet dp r (role_of e r.stage) ≡ true → is_mode (mode_at (role_of e r.stage) r.armings) mode.Interrupted ≡ false
      → ends_call (role_of e r.stage) (mode_at (role_of e r.stage) r.armings) r.hold ≡ true
  clear_ends event.RouteFailure c s can i = absurd (false≢true c)
  clear_ends event.Busy c s can i = absurd (false≢true c)
  clear_ends event.NoAnswer c s can i = absurd (false≢true c)
  clear_ends event.Seized c s can i = absurd (false≢true c)
  clear_ends event.Answer c s can i = absurd (false≢true c)
  clear_ends event.MidCall c s can i = absurd (false≢true c)
  clear_ends event.Moved c s can i = absurd (false≢true c)
  clear_ends (event.Clear One) c s can i = rw (i, s)
  clear_ends (event.Clear Two) c s can i = absurd (false≢true (sym (ap (met_in role.Disconnect2) s) ∙ and_left (met_in role.Disconnect2 r.stage) _ (and_left (met_in role.Disconnect2 r.stage && is_in dp role.Disconnect2) _ can)))

  module _ (e : Event) (t : Tenths) (only-clears : (is_held r.hold && not (is_clear e)) ≡ false) (can : can_meet dp r (role_of e r.stage) ≡ true) where
    abbrev p : Role
    p = role_of e r.stage

    abbrev m : Mode
    m = mode_at p r.armings

    abbrev next : Hold
    next = hold_after p m r.hold

    -- where the call goes on, it is held if it was or if a leg is lost, and not at the trigger
    module _ (on : ends_call p m r.hold ≡ false) where
      held_still : is_held r.hold ≡ true → is_held next ≡ true
      held_still k = held_exactly p m r.hold ∙ rw k (or-true (is_mode m mode.Interrupted))

      held_at_loss : (l : Leg) → leaves dp p l ≡ true → is_held next ≡ true
      held_at_loss l k = held_exactly p m r.hold ∙ go (is_mode m mode.Interrupted) (is_role p role.Disconnect2) (is_held r.hold) (rw (and_left (loses_leg p) (is_on_leg dp p l) k) at on)
        where
          go : (i d k : Bool) → (not i && true && not (d && k)) ≡ false → (i || k) ≡ true
          go true d k n = refl
          go false true true n = refl
          go false true false n = absurd (true≢false n)
          go false false k n = absurd (true≢false n)

      not_at_trigger : {A : Type 0} → next ≡ hold.Trigger → A
      not_at_trigger {A} = go (is_mode m mode.Interrupted) refl
        where
          go : (i : Bool) → is_mode m mode.Interrupted ≡ i → cond i (hold.At p) r.hold ≡ hold.Trigger → A
          go true q k = absurd (false≢true (ap is_trigger k))
          go false q k =
              let clear : is_clear e ≡ true = not-false (is_clear e) (rw (ap is_held k) at only-clears) in
              absurd (true≢false (sym (clear_ends e clear (h.trigger k).2 can q) ∙ on))

    event_keeps : Keeps (met dp r p t)
    unfolding met
    event_keeps = by_cond Keeps (ends_call p m r.hold) _ _ (λ e o. absurd (true≢false o)) (λ on o. record {
      leg1 = leg_after_met dp p One t (leg_at One r) r.hold next (held_still on) (held_at_loss on One) h.leg1;
      leg2 = leg_after_met dp p Two t (leg_at Two r) r.hold next (held_still on) (held_at_loss on Two) h.leg2;
      trigger = λ k. not_at_trigger on k;
    })

  continued_keeps : (t : Tenths) → Keeps (continued dp r t)
  unfolding continued
  continued_keeps t =
      by_cond Keeps (is_present r.leg1 && is_present r.leg2) _ _
      (λ both. let one = and_left (is_present r.leg1) _ both in let two = and_right (is_present r.leg1) _ both in on_cond Keeps (is_trigger r.hold) _ _ (λ o. not_held _ one two refl) (λ o. not_held _ one two refl))
      (λ e o. absurd (true≢false o))

-- what is served
module _ (dp : PointSet) (r : Record) (h : NoOrphan r) where
  served_keeps : (k : Kind) (t : Tenths) (rest : List ℕ) → first_of (rows_of dp r k t rest) ≡ Ok tt → Keeps (served dp r k t rest)
  unfolding aborted
  served_keeps (kind.Setup s) t rest e = λ o. h
  served_keeps (kind.Event x) t rest e = let none = no_row (rows_of dp r (kind.Event x) t rest) e in event_keeps dp r h x t (none 1) (not-false (can_meet dp r (role_of x r.stage)) (none 2))
  served_keeps (kind.PeriodOver l) t rest e = λ o. charged_keeps r h l no_charge t (λ gone. refl)
  served_keeps (kind.RequestReport n) t rest e = λ o. armed_holds dp NoOrphan (λ s a k q. record { leg1 = q.leg1; leg2 = q.leg2; trigger = q.trigger }) (entries_of n rest) (timed r t) (timed_keeps r h t)
  served_keeps kind.Continue t rest e = continued_keeps dp r h t
  served_keeps (kind.Connect n c) t rest e = λ o. not_held _ (connects r h (not-false (can_connect r) (no_row (rows_of dp r (kind.Connect n c) t rest) e 3))) refl refl
  served_keeps kind.Release t rest e = λ o. absurd (true≢false o)
  served_keeps (kind.ApplyCharging l period) t rest e =
      let both = not-false (is_present r.leg1 && is_present (leg_at l r).presence) (no_row (rows_of dp r (kind.ApplyCharging l period) t rest) e 2) in
      λ o. charged_keeps r h l (granted r.stage period t) t (λ gone. absurd (false≢true (sym (ap is_present gone) ∙ and_right (is_present r.leg1) _ both)))
  served_keeps kind.ActivityTest t rest e = λ o. timed_keeps r h t
  served_keeps kind.Abort t rest e =
      let d = dropped_keeps r h in
      on_cond Keeps (is_release r.handling) _ _ (λ o. absurd (true≢false o))
      (on_cond Keeps (is_held r.hold) _ _ (continued_keeps dp (dropped r) d t) (λ o. timed_keeps (dropped r) d t))

-- so any item
pub respond_keeps : (r : Record) → NoOrphan r → (i : Item) (rest : List ℕ) → is_over (respond_of r i rest).answer ≡ false → NoOrphan (respond_of r i rest).next
unfolding respond_in
respond_keeps r h i rest =
    let dp = set_of r.bcsm in
    let k = kind_of i.body in
    let rows = rows_of dp r k i.time rest in
    on_guard Keeps (first_of (row1_time i.time ∷ rows)) r (served dp r k i.time rest) (λ n o. h) (λ e. served_keeps dp r h k i.time rest (passes (row1_time i.time).applies (row1_time i.time).refusal (first_of rows) e).1)

-- ---- a call that opens

begun_both : (b : Bcsm) (triggered : Bool) (timer : Seconds) (handling : Handling) (number : Number) (t : Tenths) → NoOrphan (begun b triggered timer handling number t).next
begun_both b true timer handling number t = both _ refl refl refl
begun_both b false timer handling number t = both _ refl refl refl

pub open_keeps : (i : Item) (rest s : List ℕ) → is_accepted (open_of i rest s).answer ≡ true → NoOrphan (open_of i rest s).next
open_keeps i rest = on_open i rest (λ s. is_accepted s.answer ≡ true → NoOrphan s.next) (λ m a. absurd (false≢true a)) (λ u e triggered timer handling number t a. begun_both u.bcsm triggered timer handling number t)
