-- In range in, in range out: an accepted item that does not end the call leaves a record in range, whose last time is the item's. The record's points are those of its own kind, which is the call's before.
-- A record is in range if eight tests hold (`Fits`), and every next record is the old one with some fields replaced, so a step has only to say which tests it touches.
use Prim.Native.Nat.{ℕ, zero, suc, ◌+◌, ◌≤◌}
use mathlib.Core.Path.{◌≡◌, refl, ap, ◌∙◌}
use mathlib.Core.Bool.{Bool, true, false, not, cond, ◌&&◌, ◌||◌, or-true, false≢true}
use mathlib.Core.List.{List, [], ◌∷◌}
use native.Mathlib.Omega.{arith}
use lib.Dec.{leb, eqb}
use lib.ListN.{length, get_or, drop, set}
use borrow.Author.Tests.{leb-true, ltb-false, le-leb, eq-eqb, eqb-true, not-false}
use Rattle.forms.specs.Bytes.{all, same, pad}
use Rattle.forms.specs.Fields.{Field, byte, nature, digit_count, is_digit, all_in_range}
use Rattle.forms.specs.Item.{form_of, rest_in_range, item_in_range}
use Rattle.forms.specs.Profile.{fields_of, profile_bytes, sense_in_range, profile_in_range, profile_of, is_profile}
use Rattle.forms.specs.Units.{is_clock_reading, is_period, is_timer, is_default_timer}
use Rattle.std.specs.Prelude.{Option, Some, None, Ok, Err}
use Rattle.forms.specs.declared.item.Body.TheVariants as body
use Rattle.forms.specs.declared.item.Leg.TheVariants.{One, Two}
use Rattle.forms.proofs.ByteLaws.{and_left, and_right}
use Rattle.call.specs.Types.{Bcsm, Body, Item, Entry, Leg, Handling, Seconds, Tenths, PointSet, Role, Stage, Mode, Clock, Charge, LegState, Arming, Hold, Number, Record, Answer, Stepped, Kind, Opening, Early}
use Rattle.call.specs.declared.roles.Role.TheVariants as role
use Rattle.call.specs.declared.record.Presence.TheVariants.{Absent, Present}
use Rattle.call.specs.declared.stages.Stage.TheVariants.{Analysing}
use Rattle.call.specs.declared.armings.Mode.TheVariants as mode
use Rattle.call.specs.declared.record.Clock.TheVariants as clock
use Rattle.call.specs.declared.record.Hold.TheVariants as hold
use Rattle.call.specs.declared.kind.Kind.TheVariants as kind
use Rattle.forms.specs.Profile.{is_release}
use Rattle.call.specs.Roles.{roles, place_of, is_role, is_among, every, is_active}
use Rattle.call.specs.Armings.{is_mode, mode_of, unarmed, no_armings, mode_at, disarmed}
use Rattle.call.specs.Points.{set_of, point_in, is_in, leaves, disarms, is_point_set}
use Rattle.call.specs.Record.{places, leg, no_charge, waiting, running, is_present, number_of, leg_at, timed, staged, with_legs, with_leg, armed_as, numbered, is_held, is_trigger}
use Rattle.call.specs.Charging.{answered_as, answered, granted}
use Rattle.call.specs.Answers.{remains, first_of}
use Rattle.call.specs.Request.{entries_of, named, is_mode_for, is_timer_for, is_good, seen_after, are_good, none_seen, kept_after, armed_by, armed_with}
use Rattle.call.specs.Events.{role_of, hold_after, leg_after, ends_call, met_record, met}
use Rattle.call.specs.Operations.{resumed, continued, connected, dropped, aborted, charged}
use Rattle.call.specs.Kind.{kind_of, if_setup}
use Rattle.call.specs.Range.{charge_in_range_as, charge_in_range, hold_in_range, armings_in_range, places_in_range, number_in_range, in_range_of, record_in_range}
use Rattle.call.specs.Refusals.{row1, row1_time, row3, row7, rows_of}
use Rattle.call.specs.Step.{served, respond_in, respond_of, step_of}
use Rattle.call.specs.Setup.{opened, begun, not_open, set_up_of, opened_by, open_of}
use Rattle.call.proofs.Laws.{on_cond, on_guard, each, passes, no_row, armed_keeps}
use Rattle.call.proofs.CallTheorems.{is_over, kind_kept}
use Rattle.call.proofs.SetupLaws.{AsSetup, setup, other, as_setup, Comes, refuses, opens, open_comes}
use Rattle.call.proofs.PointLaws.{place_injective, same_role, every_role, disarm_these, sets_fit, role_exactly, pair_point}

-- ---- a record's tests, one by one

pub record Fits (dp : PointSet) (r : Record) : Type 0 where
  pub leg1 : charge_in_range (leg_at One r).charge r.last ≡ true
  pub leg2 : charge_in_range (leg_at Two r).charge r.last ≡ true
  pub hold : hold_in_range dp r.hold ≡ true
  pub last : is_clock_reading r.last ≡ true
  pub armings : armings_in_range dp r.armings ≡ true
  pub kept : is_timer r.kept ≡ true
  pub timer : is_default_timer r.timer ≡ true
  pub number : number_in_range r.number ≡ true

pub fits : (dp : PointSet) (r : Record) → in_range_of dp r ≡ true → Fits dp r
unfolding in_range_of
fits dp r h =
    let f = each (charge_in_range (leg_at One r).charge r.last) (charge_in_range (leg_at Two r).charge r.last ∷ is_clock_reading r.last ∷ is_timer r.kept ∷ is_default_timer r.timer ∷ number_in_range r.number ∷ (hold_in_range dp r.hold && armings_in_range dp r.armings) ∷ []) h in
    record { leg1 = f 0; leg2 = f 1; last = f 2; kept = f 3; timer = f 4; number = f 5; hold = and_left _ (armings_in_range dp r.armings) (f 6); armings = and_right (hold_in_range dp r.hold) _ (f 6) }

pub in_range_lem : (dp : PointSet) (r : Record) → Fits dp r → in_range_of dp r ≡ true
unfolding in_range_of
in_range_lem dp r f = rw (f.leg1, f.leg2, f.hold, f.last, f.armings, f.kept, f.timer, f.number)

-- ---- armings

-- every role is in the set or unarmed, and Moved is not armed in mode 0
in_set : (dp : PointSet) (a : List Arming) → armings_in_range dp a ≡ true → (p : Role) → (is_in dp p || is_mode (mode_at p a) mode.None) ≡ true
in_set dp a h = every_role (λ p. is_in dp p || is_mode (mode_at p a) mode.None) (and_left _ (not (is_mode (mode_at role.Moved a) mode.Interrupted)) h)

calm : (dp : PointSet) (a : List Arming) → armings_in_range dp a ≡ true → not (is_mode (mode_at role.Moved a) mode.Interrupted) ≡ true
calm dp a h = and_right (every (λ p. is_in dp p || is_mode (mode_at p a) mode.None) roles) _ h

-- every-role the other way round: a test that holds of every role holds of the ten
all_roles : (f : Role → Bool) → ((p : Role) → f p ≡ true) → (ps : List Role) → every f ps ≡ true
all_roles f h [] = refl
all_roles f h (p ∷ ps) = rw (h p, all_roles f h ps)

armings_fit : (dp : PointSet) (a : List Arming) → ((p : Role) → (is_in dp p || is_mode (mode_at p a) mode.None) ≡ true) → not (is_mode (mode_at role.Moved a) mode.Interrupted) ≡ true → armings_in_range dp a ≡ true
armings_fit dp a h k = rw (all_roles (λ p. is_in dp p || is_mode (mode_at p a) mode.None) h roles, k)

-- nothing armed
none_fits : (dp : PointSet) → armings_in_range dp no_armings ≡ true
none_fits dp = armings_fit dp no_armings (λ p. rw (every_role (λ q. is_mode (mode_at q no_armings) mode.None) refl p) (or-true (is_in dp p))) refl

-- ---- fields replaced

module _ (dp : PointSet) (r : Record) (f : Fits dp r) where
  staged_fits : (s : Stage) (h : Hold) → hold_in_range dp h ≡ true → Fits dp (staged r s h)
  staged_fits s h o = record { leg1 = f.leg1; leg2 = f.leg2; hold = o; last = f.last; armings = f.armings; kept = f.kept; timer = f.timer; number = f.number }

  legs_fit : (a b : LegState) → charge_in_range a.charge r.last ≡ true → charge_in_range b.charge r.last ≡ true → Fits dp (with_legs r a b)
  legs_fit a b o p = record { leg1 = o; leg2 = p; hold = f.hold; last = f.last; armings = f.armings; kept = f.kept; timer = f.timer; number = f.number }

  armed_fits : (a : List Arming) (k : Seconds) → armings_in_range dp a ≡ true → is_timer k ≡ true → Fits dp (armed_as r a k)
  armed_fits a k o p = record { leg1 = f.leg1; leg2 = f.leg2; hold = f.hold; last = f.last; armings = o; kept = p; timer = f.timer; number = f.number }

  numbered_fits : (n : Number) → number_in_range n ≡ true → Fits dp (numbered r n)
  numbered_fits n o = record { leg1 = f.leg1; leg2 = f.leg2; hold = f.hold; last = f.last; armings = f.armings; kept = f.kept; timer = f.timer; number = o }

  leg_fits_lem : (l : Leg) (s : LegState) → charge_in_range s.charge r.last ≡ true → Fits dp (with_leg l r s)
  leg_fits_lem One s o = legs_fit s (leg_at Two r) o f.leg2
  leg_fits_lem Two s o = legs_fit (leg_at One r) s f.leg1 o

  dropped_fits : Fits dp (dropped r)
  dropped_fits = record { leg1 = refl; leg2 = refl; hold = f.hold; last = f.last; armings = none_fits dp; kept = refl; timer = f.timer; number = f.number }

-- ---- charges, at a later time

-- by what the clock is
later : (k : Clock) (c : Charge) (a t : Tenths) → charge_in_range_as k c a ≡ true → a.0 ≤ t.0 → charge_in_range_as k c t ≡ true
later clock.None c a t h le = h
later clock.Waiting c a t h le = h
later clock.Running c a t h le =
    let since : c.start.0 ≤ a.0 = leb-true _ _ (and_right (is_period c.period) (leb c.start.0 a.0) h) in
    rw (and_left (is_period c.period) (leb c.start.0 a.0) h, le-leb c.start.0 t.0 (omega arith))

now_runs : (p t : Tenths) → is_period p ≡ true → charge_in_range (running p t) t ≡ true
now_runs p t h = rw (h, le-leb t.0 t.0 (omega arith))

answered_fits : (k : Clock) (c : Charge) (a t : Tenths) → c.clock ≡ k → charge_in_range_as k c a ≡ true → a.0 ≤ t.0 → charge_in_range (answered_as k t c) t ≡ true
answered_fits clock.None c a t e h le = rw e h
answered_fits clock.Waiting c a t e h le = now_runs c.period t (and_left (is_period c.period) (eqb c.start.0 0) h)
answered_fits clock.Running c a t e h le = rw e (later clock.Running c a t h le)

granted_fits : (s : Stage) (p t : Tenths) → is_period p ≡ true → charge_in_range (granted s p t) t ≡ true
granted_fits s p t h = go (is_active s)
  where
    go : (b : Bool) → charge_in_range (cond b (running p t) (waiting p)) t ≡ true
    go true = now_runs p t h
    go false = rw h

leg_after_fits : (dp : PointSet) (p : Role) (l : Leg) (s : LegState) (a t : Tenths) → charge_in_range s.charge a ≡ true → a.0 ≤ t.0 → charge_in_range (leg_after dp p l t s).charge t ≡ true
leg_after_fits dp p l s a t h le = go (leaves dp p l) (is_role p role.Answer)
  where
    go : (b c : Bool) → charge_in_range (cond b (leg Absent no_charge) (leg s.presence (cond c (answered t s.charge) s.charge))).charge t ≡ true
    go true c = refl
    go false true = answered_fits s.charge.clock s.charge a t refl h le
    go false false = later s.charge.clock s.charge a t h le

timed_fits : (dp : PointSet) (r : Record) (t : Tenths) → Fits dp r → is_clock_reading t ≡ true → r.last.0 ≤ t.0 → Fits dp (timed r t)
timed_fits dp r t f o le = record {
  leg1 = later r.clock1 (leg_at One r).charge r.last t f.leg1 le;
  leg2 = later r.clock2 (leg_at Two r).charge r.last t f.leg2 le;
  hold = f.hold;
  last = o;
  armings = f.armings;
  kept = f.kept;
  timer = f.timer;
  number = f.number;
}

-- ---- armings, hold and kept timer

-- what is unarmed stays so, whatever the row
disarmed_fits : (dp : PointSet) (ps : List Role) (a : List Arming) → armings_in_range dp a ≡ true → armings_in_range dp (disarmed ps a) ≡ true
disarmed_fits dp ps a h =
    armings_fit dp (disarmed ps a)
    (λ p. rw (disarm_these ps p a) (unarmed_or (is_in dp p) (is_among p ps) (mode_at p a) (in_set dp a h p)))
    (rw (disarm_these ps role.Moved a) (calm_or (is_among role.Moved ps) (mode_at role.Moved a) (calm dp a h)))
  where
    unarmed_or : (b c : Bool) (m : Mode) → (b || is_mode m mode.None) ≡ true → (b || is_mode (cond c mode.None m) mode.None) ≡ true
    unarmed_or true c m k = refl
    unarmed_or false true m k = refl
    unarmed_or false false m k = k

    calm_or : (c : Bool) (m : Mode) → not (is_mode m mode.Interrupted) ≡ true → not (is_mode (cond c mode.None m) mode.Interrupted) ≡ true
    calm_or true m k = refl
    calm_or false m k = k

-- a role that was armed is a point of the call, and the call is not held at Moved
hold_fits : (dp : PointSet) (p : Role) (a : List Arming) (earlier : Hold) → armings_in_range dp a ≡ true → hold_in_range dp earlier ≡ true → hold_in_range dp (hold_after p (mode_at p a) earlier) ≡ true
hold_fits dp p a earlier h k = go (mode_at p a) refl
  where
    point : (b : Bool) → (b || false) ≡ true → b ≡ true
    point true k = refl
    point false k = k

    elsewhere : (b : Bool) → is_role p role.Moved ≡ b → mode_at p a ≡ mode.Interrupted → not b ≡ true
    elsewhere true e k = absurd (let z : false ≡ true = rw (← same_role p role.Moved e, k) at (calm dp a h) in false≢true z)
    elsewhere false e k = refl

    go : (m : Mode) → mode_at p a ≡ m → hold_in_range dp (hold_after p m earlier) ≡ true
    go mode.None e = k
    go mode.Notify e = k
    go mode.Interrupted e = rw (point (is_in dp p) (rw e at (in_set dp a h p))) (elsewhere (is_role p role.Moved) refl e)

-- 50 takes no mode 0
mode_fits : (m : ℕ) → is_mode_for role.Moved m ≡ true → not (is_mode (mode_of m) mode.Interrupted) ≡ true
mode_fits m h = go (eqb m 0) (eqb m 1) refl
  where
    go : (b c : Bool) → eqb m 0 ≡ b → not (is_mode (cond b mode.Interrupted (cond c mode.Notify mode.None)) mode.Interrupted) ≡ true
    go true c k = absurd (let z : false ≡ true = rw k at (and_right (leb m 2) (not (eqb m 0)) h) in false≢true z)
    go false true k = refl
    go false false k = refl

-- what holds of the element at j, and of x if it is put there, holds of that element afterwards
set_holds : {A : Type 0} (P : A → Type 0) (d x : A) (l : List A) (i j : ℕ) → P (get_or l j d) → (i ≡ j → P x) → P (get_or (set l i x) j d)
set_holds P d x [] i j h g = h
set_holds P d x (y ∷ l) zero zero h g = g refl
set_holds P d x (y ∷ l) zero (suc j) h g = h
set_holds P d x (y ∷ l) (suc i) zero h g = h
set_holds P d x (y ∷ l) (suc i) (suc j) h g = set_holds P d x l i j h (λ e. g (ap suc e))

-- a point of the call, armed in a mode that it may have
armed_one : (dp : PointSet) (p : Role) (m : ℕ) (a : List Arming) → is_in dp p ≡ true → is_mode_for p m ≡ true → armings_in_range dp a ≡ true → armings_in_range dp (set a (place_of p) (record { mode = mode_of m })) ≡ true
armed_one dp p m a on good h =
    let x : Arming = record { mode = mode_of m } in
    armings_fit dp (set a (place_of p) x)
    (λ q. set_holds (λ (y : Arming). (is_in dp q || is_mode y.mode mode.None) ≡ true) unarmed x a (place_of p) (place_of q) (in_set dp a h q) (λ e. rw (← place_injective p q e, on)))
    (set_holds (λ (y : Arming). not (is_mode y.mode mode.Interrupted) ≡ true) unarmed x a (place_of p) (place_of role.Moved) (calm dp a h) (λ e. mode_fits m (rw (place_injective p role.Moved e) at good)))

kept_fits : (b : Bool) (timer kept : Seconds) → is_timer timer ≡ true → is_timer kept ≡ true → is_timer (cond b kept timer) ≡ true
kept_fits true timer kept h g = g
kept_fits false timer kept h g = h

module _ (dp : PointSet) (fit : is_point_set dp ≡ true) where
  entry_fits : (r : Record) (e : Entry) (x : Option Role) → named dp e ≡ x → (seen : List Bool) → Fits dp r → is_good x seen e ≡ true → Fits dp (armed_by r x e)
  entry_fits r e None n seen f h = f
  entry_fits r e (Some p) n seen f h =
      let g = each (is_mode_for p e.mode) (is_timer_for p e.mode e.timer ∷ not (get_or seen (place_of p) false) ∷ []) h in
      let on = pair_point (point_in dp p) e.leg e.point ((role_exactly dp fit p e.leg e.point).0 n) in
      armed_fits dp r f (set r.armings (place_of p) (record { mode = mode_of e.mode })) (kept_after e.timer r.kept)
      (armed_one dp p e.mode r.armings on (g 0) f.armings)
      (kept_fits (eqb e.timer.0 0) e.timer r.kept (and_left (is_timer e.timer) (eqb e.timer.0 0 || (is_role p role.NoAnswer && leb e.mode 1)) (g 1)) f.kept)

  entries_fit : (r : Record) (es : List Entry) (seen : List Bool) → Fits dp r → are_good dp seen es ≡ true → Fits dp (armed_with dp r es)
  unfolding are_good armed_with
  entries_fit r [] seen f h = f
  entries_fit r (e ∷ es) seen f h =
      let x = named dp e in
      let g = is_good x seen e in
      let rest = are_good dp (seen_after x seen) es in
      entries_fit (armed_by r x e) es (seen_after x seen) (entry_fits r e x refl seen f (and_left g rest h)) (and_right g rest h)

-- ---- numbers

places_fit : (n c : ℕ) (ds : List ℕ) → length ds ≡ c → all is_digit ds ≡ true → places_in_range c (pad n ds) ≡ true
unfolding places_in_range all
places_fit zero c ds e h = refl
places_fit (suc n) zero [] e h = places_fit n zero [] refl refl
places_fit (suc n) zero (d ∷ ds) e h = absurd (omega arith)
places_fit (suc n) (suc c) [] e h = absurd (omega arith)
places_fit (suc n) (suc c) (d ∷ ds) e h = rw (and_left (is_digit d) (all is_digit ds) h) (places_fit n c ds (omega arith) (and_right (is_digit d) (all is_digit ds) h))

-- of a Setup or a Connect in range
number_fits_lem : (n c : ℕ) (ds : List ℕ) → (((nature n).in_range && ((digit_count c).in_range && true)) && (eqb (length ds) c && all is_digit ds)) ≡ true → number_in_range (number_of n c ds) ≡ true
unfolding number_in_range
number_fits_lem n c ds h =
    let f = and_left ((nature n).in_range && ((digit_count c).in_range && true)) (eqb (length ds) c && all is_digit ds) h in
    let d = and_right ((nature n).in_range && ((digit_count c).in_range && true)) (eqb (length ds) c && all is_digit ds) h in
    let g = and_left (digit_count c).in_range true (and_right (nature n).in_range ((digit_count c).in_range && true) f) in
    rw (and_left (nature n).in_range ((digit_count c).in_range && true) f, g)
    (places_fit places c ds (eqb-true (length ds) c (and_left (eqb (length ds) c) (all is_digit ds) d)) (and_right (eqb (length ds) c) (all is_digit ds) d))

-- what an item in range asks: a number or a period in range
abbrev asks_fit : Kind → List ℕ → Bool
asks_fit (kind.Setup s) rest = number_in_range (number_of s.nature s.count rest)
asks_fit (kind.Event e) rest = true
asks_fit (kind.PeriodOver l) rest = true
asks_fit (kind.RequestReport n) rest = true
asks_fit kind.Continue rest = true
asks_fit (kind.Connect nature count) rest = number_in_range (number_of nature count rest)
asks_fit kind.Release rest = true
asks_fit (kind.ApplyCharging l period) rest = is_period period
asks_fit kind.ActivityTest rest = true
asks_fit kind.Abort rest = true

body_fits : (x : Body) (rest : List ℕ) → (all_in_range (form_of x).fields && rest_in_range (form_of x).rest rest) ≡ true → asks_fit (kind_of x) rest ≡ true
body_fits (body.Setup s) rest h = number_fits_lem s.nature s.count rest h
body_fits (body.RouteFailure c) rest h = refl
body_fits (body.Busy c) rest h = refl
body_fits body.NoAnswer rest h = refl
body_fits body.Seized rest h = refl
body_fits body.Answer rest h = refl
body_fits (body.MidCall d) rest h = refl
body_fits body.Moved rest h = refl
body_fits (body.Clear l c) rest h = refl
body_fits (body.PeriodOver l) rest h = refl
body_fits (body.RequestReport c) rest h = refl
body_fits body.Continue rest h = refl
body_fits (body.Connect n c) rest h = number_fits_lem n c rest h
body_fits body.Release rest h = refl
body_fits (body.ApplyCharging l p) rest h = and_left (is_period p) true (and_left (is_period p && true) (eqb (length rest) 0) h)
body_fits body.ActivityTest rest h = refl
body_fits body.Abort rest h = refl

-- ---- steps: what is left of an accepted item at t, where the call is not over

-- a record that passes the test, with that time
abbrev is_left : (Record → Bool) → Tenths → Stepped → Bool
is_left f t s = remains s.answer true true (f s.next && eqb s.next.last.0 t.0)

-- in range by its own points
abbrev pub is_left_well : Tenths → Stepped → Bool
is_left_well = is_left record_in_range

-- not over, and not earlier than the last time
module _ (dp : PointSet) where
  abbrev LeftWell : Tenths → Stepped → Type 0
  LeftWell t s = is_left (in_range_of dp) t s ≡ true

  goes : (next : Record) (t : Tenths) → Fits dp next → next.last ≡ t → (in_range_of dp next && eqb next.last.0 t.0) ≡ true
  goes next t f e = rw (in_range_lem dp next f, eq-eqb next.last.0 t.0 (ap (λ (x : Tenths). x.0) e))

  either : (b : Bool) (x y : Stepped) (t : Tenths) → LeftWell t x → LeftWell t y → LeftWell t (cond b x y)
  either b x y t = on_cond (LeftWell t) b x y

module _ (dp : PointSet) (r : Record) (t : Tenths) (f : Fits dp r) (o : is_clock_reading t ≡ true) (le : r.last.0 ≤ t.0) where
  timely : Fits dp (timed r t)
  timely = timed_fits dp r t f o le

  met_left : (p : Role) → LeftWell dp t (met dp r p t)
  unfolding met
  met_left p =
      let m = mode_at p r.armings in
      either dp (ends_call p m r.hold) _ _ t refl
      (goes dp (met_record dp r p m t) t (record {
        leg1 = leg_after_fits dp p One (leg_at One r) r.last t f.leg1 le;
        leg2 = leg_after_fits dp p Two (leg_at Two r) r.last t f.leg2 le;
        hold = hold_fits dp p r.armings r.hold f.armings f.hold;
        last = o;
        armings = disarmed_fits dp (disarms dp p) r.armings f.armings;
        kept = f.kept;
        timer = f.timer;
        number = f.number;
      }) refl)

  charged_fits : (l : Leg) (c : Charge) → charge_in_range c t ≡ true → Fits dp (charged r l c t) × ((charged r l c t).last ≡ t)
  charged_fits One c h = (leg_fits_lem dp (timed r t) timely One (leg r.leg1 c) h, refl)
  charged_fits Two c h = (leg_fits_lem dp (timed r t) timely Two (leg r.leg2 c) h, refl)

  continued_left : LeftWell dp t (continued dp r t)
  unfolding continued
  continued_left =
      let next = resumed r t in
      let g = staged_fits dp (timed r t) timely r.stage hold.None refl in
      either dp (is_present r.leg1 && is_present r.leg2) _ _ t
      (either dp (is_trigger r.hold) _ _ t
      (goes dp (armed_as next next.armings (record { 0 = 0 })) t (armed_fits dp next g next.armings (record { 0 = 0 }) g.armings refl) refl)
      (goes dp next t g refl)) refl

module _ (dp : PointSet) (fit : is_point_set dp ≡ true) (r : Record) (t : Tenths) (rest : List ℕ) (f : Fits dp r) (o : is_clock_reading t ≡ true) where
  aborted_left : r.last.0 ≤ t.0 → LeftWell dp t (aborted dp r t)
  unfolding aborted
  aborted_left le =
      let d = dropped r in
      let g = dropped_fits dp r f in
      either dp (is_release r.handling) _ _ t refl
      (either dp (is_held r.hold) _ _ t (continued_left dp d t g o le) (goes dp (timed d t) t (timed_fits dp d t g o le) refl))

  connected_fits : r.last.0 ≤ t.0 → (n : Number) → number_in_range n ≡ true → Fits dp (connected r n t)
  connected_fits le n h =
      let g = timed_fits dp r t f o le in
      let p = staged (timed r t) Analysing hold.None in
      let q = with_legs p (leg_at One r) (leg Present (leg_at Two r).charge) in
      numbered_fits dp q (legs_fit dp p (staged_fits dp (timed r t) g Analysing hold.None refl) (leg_at One r) (leg Present (leg_at Two r).charge) g.leg1 g.leg2) n h

  -- the first row: the time is not before the last
  in_time : (k : Kind) → first_of (row7 r t ∷ drop 1 (rows_of dp r k t rest)) ≡ Ok tt → r.last.0 ≤ t.0
  in_time k h = ltb-false _ _ (no_row (row7 r t ∷ drop 1 (rows_of dp r k t rest)) h 0)

  served_left : (k : Kind) → asks_fit k rest ≡ true → first_of (rows_of dp r k t rest) ≡ Ok tt → LeftWell dp t (served dp r k t rest)
  served_left (kind.Setup s) a h = refl
  served_left (kind.Event e) a h = met_left dp r t f o (in_time (kind.Event e) h) (role_of e r.stage)
  served_left (kind.PeriodOver l) a h = let q = charged_fits dp r t f o (in_time (kind.PeriodOver l) h) l no_charge refl in goes dp _ t q.0 q.1
  served_left (kind.RequestReport n) a h =
      let es = entries_of n rest in
      let good = not-false (are_good dp none_seen es) (no_row (rows_of dp r (kind.RequestReport n) t rest) h 2) in
      goes dp (armed_with dp (timed r t) es) t (entries_fit dp fit (timed r t) es none_seen (timed_fits dp r t f o (in_time (kind.RequestReport n) h)) good) (armed_keeps dp (λ s. s.last) (λ s a k. refl) es (timed r t))
  served_left kind.Continue a h = continued_left dp r t f o (in_time kind.Continue h)
  served_left (kind.Connect n c) a h =
      let next = connected r (number_of n c rest) t in
      let g = connected_fits (in_time (kind.Connect n c) h) (number_of n c rest) a in
      goes dp (armed_as next next.armings (record { 0 = 0 })) t (armed_fits dp next g next.armings (record { 0 = 0 }) g.armings refl) refl
  served_left kind.Release a h = refl
  served_left (kind.ApplyCharging l p) a h = let q = charged_fits dp r t f o (in_time (kind.ApplyCharging l p) h) l (granted r.stage p t) (granted_fits r.stage p t a) in goes dp _ t q.0 q.1
  served_left kind.ActivityTest a h = goes dp (timed r t) t (timed_fits dp r t f o (in_time kind.ActivityTest h)) refl
  served_left kind.Abort a h = aborted_left (in_time kind.Abort h)

-- ---- the theorems

-- an item in range on a record in range, of a call whose points are dp
respond_in_left : (dp : PointSet) → is_point_set dp ≡ true → (r : Record) (i : Item) (rest : List ℕ) → in_range_of dp r ≡ true → item_in_range i rest ≡ true → LeftWell dp i.time (respond_in dp r i rest)
unfolding respond_in item_in_range
respond_in_left dp fit r i rest h g =
    let t = i.time in
    let k = kind_of i.body in
    let form = form_of i.body in
    let b = all_in_range form.fields && rest_in_range form.rest rest in
    let o = and_right b (is_clock_reading t) g in
    on_guard (LeftWell dp t) (first_of (row1_time t ∷ rows_of dp r k t rest)) r (served dp r k t rest) (λ n. refl)
    (λ e. served_left dp fit r t rest (fits dp r h) o k (body_fits i.body rest (and_left b (is_clock_reading t) g)) (passes (row1_time t).applies (row1_time t).refusal (first_of (rows_of dp r k t rest)) e).1)

-- by the points of its own kind, where that is the kind b
by_kind : (b : Bcsm) (t : Tenths) (s : Stepped) → (is_over s.answer ≡ false → s.next.bcsm ≡ b) → LeftWell (set_of b) t s → is_left_well t s ≡ true
by_kind b t s k h = same s.answer (λ o. ap (λ x. in_range_of (set_of x) s.next && eqb s.next.last.0 t.0) (k o)) ∙ h
  where
    same : (a : Answer) {x y : Bool} → (is_over a ≡ false → x ≡ y) → remains a true true x ≡ remains a true true y
    same (Err n) f = refl
    same (Ok o) f = go o.over f
      where
        go : (b : Bool) {x y : Bool} → (b ≡ false → x ≡ y) → cond b true x ≡ cond b true y
        go true f = refl
        go false f = f refl

-- of any call, for the owner who knows both
pub respond_left : (r : Record) (i : Item) (rest : List ℕ) → record_in_range r ≡ true → item_in_range i rest ≡ true → is_left_well i.time (respond_of r i rest) ≡ true
respond_left r i rest h g = by_kind r.bcsm i.time (respond_of r i rest) (kind_kept r i rest) (respond_in_left (set_of r.bcsm) (sets_fit r.bcsm) r i rest h g)

-- any item on any record: what is out of range is refused
pub step_left : (r : Record) (i : Item) (rest : List ℕ) → is_left_well i.time (step_of r i rest) ≡ true
unfolding step_of
step_left r i rest =
    on_guard (λ s. is_left_well i.time s ≡ true) (first_of (row1 i rest ∷ row3 r ∷ [])) r (respond_of r i rest) (λ n. refl)
    (λ e. let q = no_row (row1 i rest ∷ row3 r ∷ []) e in respond_left r i rest (not-false (record_in_range r) (q 1)) (not-false (item_in_range i rest) (q 0)))

-- a Setup that opens a call
begun_left : (b : Bcsm) (triggered : Bool) (timer : Seconds) (handling : Handling) (n : Number) (t : Tenths) → is_default_timer timer ≡ true → is_clock_reading t ≡ true → number_in_range n ≡ true → is_left_well t (begun b triggered timer handling n t) ≡ true
begun_left b triggered timer handling n t h o g = go triggered
  where
    new : (x : Hold) → hold_in_range (set_of b) x ≡ true → Fits (set_of b) (opened b timer handling n x t)
    new x k = record { leg1 = refl; leg2 = refl; hold = k; last = o; armings = none_fits (set_of b); kept = refl; timer = h; number = g }

    go : (triggered : Bool) → is_left_well t (begun b triggered timer handling n t) ≡ true
    go true = goes (set_of b) (opened b timer handling n hold.Trigger t) t (new hold.Trigger refl) refl
    go false = goes (set_of b) (opened b timer handling n hold.None t) t (new hold.None refl) refl

-- each field of a list that is in range
field_at : (l : List Field) (i : ℕ) → all_in_range l ≡ true → (get_or l i (byte 0 true)).in_range ≡ true
field_at [] i h = refl
field_at (x ∷ l) zero h = and_left x.in_range (all_in_range l) h
field_at (x ∷ l) (suc i) h = field_at l i (and_right x.in_range (all_in_range l) h)

profile_fits : (s : List ℕ) → is_profile (profile_of s) s ≡ true → is_default_timer (profile_of s).timer ≡ true
unfolding is_profile profile_in_range fields_of
profile_fits s h =
    let p = profile_of s in
    let g = and_right (same (profile_bytes p) s) (profile_in_range p) h in
    field_at (fields_of p) 1 (and_left (all_in_range (fields_of p)) (sense_in_range p.sense (length p.numbers + length p.lengths)) g)

-- where it is set up, what its profile said being in range
set_up_left : (i : Item) (rest : List ℕ) (o : Opening) → is_default_timer o.timer ≡ true → asks_fit (kind_of i.body) rest ≡ true → is_left_well i.time (set_up_of i rest o) ≡ true
unfolding set_up_of
set_up_left i rest o h a =
    on_guard (λ s. is_left_well i.time s ≡ true) (first_of (row1_time i.time ∷ [])) _ _ (λ n. refl)
    (λ e. go (not-false (is_clock_reading i.time) (no_row (row1_time i.time ∷ []) e 0)) (as_setup (kind_of i.body)) a)
  where
    go : is_clock_reading i.time ≡ true → {k : Kind} → AsSetup k → asks_fit k rest ≡ true
        → is_left_well i.time (if_setup k (λ u. begun u.bcsm o.triggered o.timer o.handling (number_of u.nature u.count rest) i.time) not_open) ≡ true
    go t (setup u) a = begun_left u.bcsm o.triggered o.timer o.handling (number_of u.nature u.count rest) i.time h t a
    go t (other e) a = rw (e Stepped (λ u. begun u.bcsm o.triggered o.timer o.handling (number_of u.nature u.count rest) i.time) not_open)

pub open_left : (i : Item) (rest s : List ℕ) → is_left_well i.time (open_of i rest s) ≡ true
unfolding item_in_range
open_left i rest s = open_comes i rest s (λ q. is_left_well i.time q ≡ true) refl (λ h e. go h)
  where
    go : item_in_range i rest ≡ true → {e : Early} → Comes i rest s e → is_left_well i.time (opened_by i rest e) ≡ true
    go h (refuses a b) = refl
    go h (opens o m a p f) = set_up_left i rest o (rw m (profile_fits s p)) (body_fits i.body rest (and_left (all_in_range (form_of i.body).fields && rest_in_range (form_of i.body).rest rest) (is_clock_reading i.time) h))
    go h (Comes.passes a) = refl
