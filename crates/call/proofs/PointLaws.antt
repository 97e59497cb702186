-- Laws of roles, armings and point sets. What is said of a point set holds of any description that passes `is_point_set`; that the sets of both kinds of call pass is computed.
use Prim.Native.Nat.{ℕ, zero, suc, ◌+◌, ◌≤◌, ◌<◌}
use mathlib.Core.Path.{◌≡◌, refl, sym, ap, ◌∙◌}
use mathlib.Core.Logic.{◌↔◌}
use mathlib.Core.Bool.{Bool, true, false, not, cond, beq, ◌&&◌, ◌||◌, and-true, and-false, or-true, or-false, false≢true, true≢false}
use mathlib.Core.List.{List, [], ◌∷◌, map}
use native.Mathlib.Numerals.{add-one}
use native.Mathlib.Omega.{arith}
use lib.Dec.{eqb, ltb}
use lib.ListN.{length, get_or, drop, set, length-set, drop_of_length-le}
use lib.Seq.{drop-cons, get_or-set_other}
use borrow.Author.Tests.{eqb-true, eqb-false, ltb-true, not-true}
use Rattle.std.specs.Prelude.{Some, None}
use Rattle.forms.specs.Fields.{leg_number}
use Rattle.forms.proofs.ByteLaws.{and_left, and_right}
use Rattle.forms.specs.declared.item.Bcsm.TheVariants.{Originating, Terminating}
use Rattle.forms.specs.declared.item.Leg.TheVariants.{One, Two}
use Rattle.call.specs.Types.{Bcsm, Leg, Role, Point, PointSet, Arming, Hold}
use Rattle.call.specs.declared.roles.Role.TheVariants as role
use Rattle.call.specs.declared.stages.Stage.TheVariants.{Active}
use Rattle.call.specs.declared.armings.Mode.TheVariants as mode
use Rattle.call.specs.declared.record.Hold.TheVariants as hold
use Rattle.call.specs.Roles.{met_in, loses_leg, roles, place_of, is_role, is_among, every}
use Rattle.call.specs.Armings.{is_mode, unarmed, mode_at, disarmed}
use Rattle.call.specs.Points.{set_of, is_point, is_pair, is_leg, first_role, picked, point_in, is_in, role_in, is_on_leg, leaves, on_leg, disarms, leg_fits, number_fits, has_own_pair, is_point_set}
use Rattle.call.specs.Record.{is_at}
use Rattle.call.specs.Range.{hold_in_range, armings_in_range}

-- ---- roles: the ten are all, so a test of the ten proves a rule for every role

-- what stands for each role, in their order, stands at the role's place
pub in_order : {A : Type 0} (f : Role → A) (d : A) (p : Role) → get_or (map f roles) (place_of p) d ≡ f p
in_order f d role.MidCall = refl
in_order f d role.Disconnect1 = refl
in_order f d role.Abandon = refl
in_order f d role.Moved = refl
in_order f d role.RouteFailure = refl
in_order f d role.Busy = refl
in_order f d role.NoAnswer = refl
in_order f d role.Answer = refl
in_order f d role.Disconnect2 = refl
in_order f d role.Seized = refl

at_place : (p : Role) → get_or roles (place_of p) role.MidCall ≡ p
at_place = in_order (λ p. p) role.MidCall

-- no two roles share a place
pub place_injective : (p q : Role) → place_of p ≡ place_of q → p ≡ q
place_injective p q e = sym (at_place p) ∙ ap (λ n. get_or roles n role.MidCall) e ∙ at_place q

pub same_role : (p q : Role) → is_role p q ≡ true → p ≡ q
same_role p q e = place_injective p q (eqb-true (place_of p) (place_of q) e)

every_at : (f : Role → Bool) (d : Role) → f d ≡ true → (ps : List Role) (n : ℕ) → every f ps ≡ true → f (get_or ps n d) ≡ true
every_at f d k [] n h = k
every_at f d k (p ∷ ps) zero h = and_left (f p) (every f ps) h
every_at f d k (p ∷ ps) (suc n) h = every_at f d k ps n (and_right (f p) (every f ps) h)

-- what is tested of the ten roles holds of every role
pub every_role : (f : Role → Bool) → every f roles ≡ true → (p : Role) → f p ≡ true
every_role f h p = rw (at_place p) at (every_at f role.MidCall (and_left (f role.MidCall) _ h) roles (place_of p) h)

pub every_same : (f g : Role → Bool) → ((p : Role) → f p ≡ g p) → (ps : List Role) → every f ps ≡ every g ps
every_same f g h [] = refl
every_same f g h (p ∷ ps) = rw (h p, every_same f g h ps)

-- two tests that agree on the ten agree on every role
pub agree : (f g : Role → Bool) → every (λ q. beq (f q) (g q)) roles ≡ true → (p : Role) → f p ≡ g p
agree f g h p = same (f p) (g p) (every_role (λ q. beq (f q) (g q)) h p)
  where
    same : (a b : Bool) → beq a b ≡ true → a ≡ b
    same true true h = refl
    same true false h = sym h
    same false true h = h
    same false false h = refl

-- the test f holds of each place below n
abbrev pub below : ℕ → (ℕ → Bool) → Bool
below zero f = true
below (suc n) f = f zero && below n (λ i. f (suc i))

-- ---- roles found and picked by a test

first_holds : (f : Role → Bool) (ps : List Role) (p : Role) → first_role f ps ≡ Some p → f p ≡ true
first_holds f [] p h = absurd (let z : ◌≡◌ {A = ℕ} 0 1 = cc in omega arith)
first_holds f (q ∷ ps) p h = go (f q) refl (first_holds f ps p) h
  where
    go : (b : Bool) → f q ≡ b → (first_role f ps ≡ Some p → f p ≡ true) → cond b (Some q) (first_role f ps) ≡ Some p → f p ≡ true
    go true e ih k = let same : q ≡ p = cc in ap f (sym same) ∙ e
    go false e ih k = ih k

first_only : (f : Role → Bool) (p : Role) → f p ≡ true → ((q : Role) → f q ≡ true → q ≡ p) → (ps : List Role) → is_among p ps ≡ true → first_role f ps ≡ Some p
first_only f p h u [] m = absurd (false≢true m)
first_only f p h u (q ∷ ps) m = go (f q) refl (is_role p q) refl (first_only f p h u ps) m
  where
    go : (b : Bool) → f q ≡ b → (r : Bool) → is_role p q ≡ r → (is_among p ps ≡ true → first_role f ps ≡ Some p) → (r || is_among p ps) ≡ true → cond b (Some q) (first_role f ps) ≡ Some p
    go true e r k ih n = ap Some (u q e)
    go false e true k ih n = absurd (true≢false (sym h ∙ ap f (same_role p q k) ∙ e))
    go false e false k ih n = ih n

picked_among : (f : Role → Bool) (ps : List Role) (q : Role) → is_among q (picked f ps) ≡ (is_among q ps && f q)
picked_among f [] q = refl
picked_among f (p ∷ ps) q = go (f p) refl (is_role q p) refl (picked_among f ps q)
  where
    go : (b : Bool) → f p ≡ b → (r : Bool) → is_role q p ≡ r → is_among q (picked f ps) ≡ (is_among q ps && f q) → is_among q (cond b (p ∷ picked f ps) (picked f ps)) ≡ ((r || is_among q ps) && f q)
    go true e true k ih = rw k (sym (ap f (same_role q p k) ∙ e))
    go true e false k ih = rw k ih
    go false e true k ih = ih ∙ no (is_among q ps) (ap f (same_role q p k) ∙ e)
      where
        no : (a : Bool) → f q ≡ false → (a && f q) ≡ f q
        no true h = refl
        no false h = sym h
    go false e false k ih = ih

-- every role is one of the ten
pub picked_exactly : (f : Role → Bool) (q : Role) → is_among q (picked f roles) ≡ f q
picked_exactly f q = picked_among f roles q ∙ ap (λ b. b && f q) (every_role (λ p. is_among p roles) refl q)

-- ---- armings

-- to disarm a role disarms it, and no other
disarm_one : (p q : Role) (a : List Arming) → mode_at q (set a (place_of p) unarmed) ≡ cond (is_role q p) mode.None (mode_at q a)
disarm_one p q a = go (is_role q p) refl
  where
    wiped : (l : List Arming) (n : ℕ) → get_or (set l n unarmed) n unarmed ≡ unarmed
    wiped [] n = refl
    wiped (x ∷ l) zero = refl
    wiped (x ∷ l) (suc n) = wiped l n

    go : (b : Bool) → is_role q p ≡ b → mode_at q (set a (place_of p) unarmed) ≡ cond b mode.None (mode_at q a)
    go true e = rw (same_role q p e) (ap (λ x. x.mode) (wiped a (place_of p)))
    go false e = ap (λ x. x.mode) (get_or-set_other a (place_of p) (place_of q) unarmed unarmed (eqb-false (place_of q) (place_of p) e))

-- so with a list of roles
pub disarm_these : (ps : List Role) (q : Role) (a : List Arming) → mode_at q (disarmed ps a) ≡ cond (is_among q ps) mode.None (mode_at q a)
disarm_these [] q a = refl
disarm_these (p ∷ ps) q a =
    disarm_these ps q (set a (place_of p) unarmed) ∙ ap (λ m. cond (is_among q ps) mode.None m) (disarm_one p q a) ∙ go (is_role q p) (is_among q ps)
  where
    go : (here there : Bool) → cond there mode.None (cond here mode.None (mode_at q a)) ≡ cond (here || there) mode.None (mode_at q a)
    go true true = refl
    go true false = refl
    go false there = refl

pub disarmed_length : (ps : List Role) (a : List Arming) → length (disarmed ps a) ≡ length a
disarmed_length [] a = refl
disarmed_length (p ∷ ps) a = disarmed_length ps (set a (place_of p) unarmed) ∙ length-set a (place_of p) unarmed

-- ---- the code's loops over the roles

-- from the place i on, the role there comes first
roles_from : (i : ℕ) → i < 10 → drop i roles ≡ get_or roles i role.MidCall ∷ drop (i + 1) roles
roles_from i l = rw add-one (drop-cons roles i role.MidCall l)

-- no role is left
pub roles_end : (i : ℕ) → 10 ≤ i → drop i roles ≡ []
roles_end i h = drop_of_length-le roles h

-- the first role that passes a test: those from the place i on decide. The role there does, or those after it
pub first_here : (f : Role → Bool) (i : ℕ) → i < 10 → f (get_or roles i role.MidCall) ≡ true → first_role f (drop i roles) ≡ Some (get_or roles i role.MidCall)
first_here f i l h = rw (roles_from i l, h)

pub first_after : (f : Role → Bool) (i : ℕ) → i < 10 → f (get_or roles i role.MidCall) ≡ false → first_role f (drop (i + 1) roles) ≡ first_role f (drop i roles)
first_after f i l h = rw (roles_from i l, h)

-- or none
pub first_none : (f : Role → Bool) (i : ℕ) → 10 ≤ i → first_role f (drop i roles) ≡ None
first_none f i h = rw (roles_end i h)

-- a leg's roles: those from the place i on are left to disarm. The role there is one of them, and its arming goes
pub leg_hit : (dp : PointSet) (leg : Leg) (i : ℕ) → i < 10 → (a : List Arming) → is_on_leg dp (get_or roles i role.MidCall) leg ≡ true
    → disarmed (picked (λ p. is_on_leg dp p leg) (drop (i + 1) roles)) (set a (place_of (get_or roles i role.MidCall)) unarmed) ≡ disarmed (picked (λ p. is_on_leg dp p leg) (drop i roles)) a
leg_hit dp leg i l a h = rw (roles_from i l, h)

-- or it is not
pub leg_missed : (dp : PointSet) (leg : Leg) (i : ℕ) → i < 10 → (a : List Arming) → is_on_leg dp (get_or roles i role.MidCall) leg ≡ false
    → disarmed (picked (λ p. is_on_leg dp p leg) (drop (i + 1) roles)) a ≡ disarmed (picked (λ p. is_on_leg dp p leg) (drop i roles)) a
leg_missed dp leg i l a h = rw (roles_from i l, h)

-- ---- legs and pairs

same_leg : (k l : Leg) → is_leg k l ≡ true → k ≡ l
same_leg One One h = refl
same_leg One Two h = absurd (false≢true h)
same_leg Two One h = absurd (false≢true h)
same_leg Two Two h = refl

-- a point is on one leg
one_leg : (q : Point) (k l : Leg) → (is_point q && is_leg q.leg k) ≡ true → (is_point q && is_leg q.leg l) ≡ true → k ≡ l
one_leg q k l h g = sym (same_leg q.leg k (and_right (is_point q) _ h)) ∙ same_leg q.leg l (and_right (is_point q) _ g)

not_one : (q : Point) (l : Leg) → (is_point q && is_leg q.leg l) ≡ true → not (is_point q && is_leg q.leg One) ≡ true → l ≡ Two
not_one q One h g = absurd (true≢false (sym h ∙ not-true _ g))
not_one q Two h g = refl

-- the two numbers of a pair, and that it is a point
pub pair_numbers : (q : Point) (l n : ℕ) → is_pair q l n ≡ true → (l ≡ leg_number q.leg) × (n ≡ q.number)
pair_numbers q l n h =
    let e = and_right (is_point q) (eqb l (leg_number q.leg) && eqb n q.number) h in
    (eqb-true _ _ (and_left _ (eqb n q.number) e), eqb-true _ _ (and_right (eqb l (leg_number q.leg)) _ e))

pub pair_point : (q : Point) (l n : ℕ) → is_pair q l n ≡ true → is_point q ≡ true
pair_point q l n h = and_left _ (eqb l (leg_number q.leg) && eqb n q.number) h

-- ---- an answered call (T-01)

-- once the call is active the role cannot be met
abbrev pub is_past : Role → Bool
is_past q = not (met_in q Active)

-- these are what Answer disarms, whatever their points
pub answer_row : (dp : PointSet) (q : Role) → is_among q (disarms dp role.Answer) ≡ is_past q
answer_row dp = agree (λ q. is_among q (disarms dp role.Answer)) is_past refl

-- ---- any point set

-- those of both kinds of call
pub sets_fit : (b : Bcsm) → is_point_set (set_of b) ≡ true
sets_fit Originating = refl
sets_fit Terminating = refl

module _ (dp : PointSet) (fit : is_point_set dp ≡ true) where
  -- `◌&&◌` associates to the left: the last test is the outermost
  two : (every (leg_fits dp) roles && every (number_fits dp) roles) ≡ true
  two = and_left _ (every (has_own_pair dp) roles) fit

  legs : (p : Role) → leg_fits dp p ≡ true
  legs = every_role (leg_fits dp) (and_left _ (every (number_fits dp) roles) two)

  -- a point's number fits a byte, and is not the trigger's
  pub numbers_fit : (p : Role) → ((point_in dp p).number < 256) × ((point_in dp p).number ≡ dp.trigger.number → ⊥)
  numbers_fit p =
      let n = (point_in dp p).number in
      let h = every_role (number_fits dp) (and_right (every (leg_fits dp) roles) _ two) p in
      (ltb-true n 256 (and_left _ (not (eqb n dp.trigger.number)) h), eqb-false n dp.trigger.number (not-true _ (and_right (ltb n 256) _ h)))

  -- no two roles have a pair in common
  pub own_pair : (p q : Role) (l n : ℕ) → is_pair (point_in dp p) l n ≡ true → is_pair (point_in dp q) l n ≡ true → q ≡ p
  own_pair p q l n h g =
      let e = pair_numbers (point_in dp q) l n g in
      let own = every_role (λ x. is_role p x || not (is_pair (point_in dp p) (leg_number (point_in dp x).leg) (point_in dp x).number)) (every_role (has_own_pair dp) (and_right (every (leg_fits dp) roles && every (number_fits dp) roles) _ fit) p) q in
      let same : is_pair (point_in dp p) (leg_number (point_in dp q).leg) (point_in dp q).number ≡ true = rw (← e.0, ← e.1) h in
      sym (same_role p q (go (is_role p q) _ same own))
    where
      go : (a b : Bool) → b ≡ true → (a || not b) ≡ true → a ≡ true
      go true b k m = refl
      go false true k m = m
      go false false k m = absurd (false≢true k)

  -- two numbers name a role exactly if they are its pair
  pub role_exactly : (p : Role) (l n : ℕ) → (role_in dp l n ≡ Some p) ↔ (is_pair (point_in dp p) l n ≡ true)
  role_exactly p l n = (
    first_holds (λ q. is_pair (point_in dp q) l n) roles p,
    λ h. first_only (λ q. is_pair (point_in dp q) l n) p h (λ q g. own_pair p q l n h g) roles (every_role (λ q. is_among q roles) refl p),
  )

  -- a role that loses its leg disarms the points of that leg
  pub own_leg : (p q : Role) (l : Leg) → leaves dp p l ≡ true → is_among q (disarms dp p) ≡ is_on_leg dp q l
  own_leg p q l h = by p (and_left (loses_leg p) _ h) (and_right (loses_leg p) _ h) (legs p)
    where
      row : (k : Leg) → l ≡ k → is_among q (on_leg dp k) ≡ is_on_leg dp q l
      row k e = picked_exactly (λ x. is_on_leg dp x k) q ∙ ap (λ j. is_on_leg dp q j) (sym e)

      by : (x : Role) → loses_leg x ≡ true → is_on_leg dp x l ≡ true → leg_fits dp x ≡ true → is_among q (disarms dp x) ≡ is_on_leg dp q l
      by role.MidCall h on f = absurd (false≢true h)
      by role.Disconnect1 h on f = row One (one_leg (point_in dp role.Disconnect1) l One on f)
      by role.Abandon h on f = row One (one_leg (point_in dp role.Abandon) l One on f)
      by role.Moved h on f = absurd (false≢true h)
      by role.RouteFailure h on f = row Two (not_one (point_in dp role.RouteFailure) l on f)
      by role.Busy h on f = row Two (one_leg (point_in dp role.Busy) l Two on f)
      by role.NoAnswer h on f = row Two (one_leg (point_in dp role.NoAnswer) l Two on f)
      by role.Answer h on f = absurd (false≢true h)
      by role.Disconnect2 h on f = row Two (one_leg (point_in dp role.Disconnect2) l Two on f)
      by role.Seized h on f = absurd (false≢true h)

  -- so it disarms that leg's points and leaves every point of the other
  pub lost_leg : (p q : Role) (l : Leg) (a : List Arming) → leaves dp p l ≡ true → mode_at q (disarmed (disarms dp p) a) ≡ cond (is_on_leg dp q l) mode.None (mode_at q a)
  lost_leg p q l a h = rw (disarm_these (disarms dp p) q a, own_leg p q l h)

  -- Busy is met on leg 2
  pub busy_leg : leaves dp role.Busy Two ≡ true
  busy_leg = legs role.Busy

  -- Disconnect of leg 2 is a point of the call, and of leg 2; it takes that leg and no other
  pub disconnect_point : (is_in dp role.Disconnect2 ≡ true) × ((point_in dp role.Disconnect2).leg ≡ Two)
  disconnect_point = let on = legs role.Disconnect2 in (and_left (is_in dp role.Disconnect2) _ on, same_leg (point_in dp role.Disconnect2).leg Two (and_right (is_in dp role.Disconnect2) _ on))

  pub disconnect_leg : (l : Leg) → leaves dp role.Disconnect2 l ≡ is_leg Two l
  disconnect_leg l = rw (disconnect_point.0, disconnect_point.1)

  -- every role but Route failure is a point of the call
  pub all_but_failure : (p : Role) → is_role p role.RouteFailure ≡ false → is_in dp p ≡ true
  all_but_failure p e = by p e (legs p)
    where
      by : (p : Role) → is_role p role.RouteFailure ≡ false → leg_fits dp p ≡ true → is_in dp p ≡ true
      by role.MidCall e f = f
      by role.Disconnect1 e f = and_left (is_in dp role.Disconnect1) _ f
      by role.Abandon e f = and_left (is_in dp role.Abandon) _ f
      by role.Moved e f = f
      by role.RouteFailure e f = absurd (true≢false e)
      by role.Busy e f = and_left (is_in dp role.Busy) _ f
      by role.NoAnswer e f = and_left (is_in dp role.NoAnswer) _ f
      by role.Answer e f = and_left (is_in dp role.Answer) _ f
      by role.Disconnect2 e f = and_left (is_in dp role.Disconnect2) _ f
      by role.Seized e f = and_left (is_in dp role.Seized) _ f

  -- so armings are in range exactly if Route failure is a point or unarmed, and Moved not armed in mode 0
  armings_by_failure : (a : List Arming)
      → armings_in_range dp a ≡ ((is_in dp role.RouteFailure || is_mode (mode_at role.RouteFailure a) mode.None) && not (is_mode (mode_at role.Moved a) mode.Interrupted))
  armings_by_failure a =
      let on = all_but_failure in
      rw (on role.MidCall refl, on role.Disconnect1 refl, on role.Abandon refl, on role.Moved refl, on role.Busy refl, on role.NoAnswer refl, on role.Answer refl, on role.Disconnect2 refl, on role.Seized refl, and-true (is_in dp role.RouteFailure || is_mode (mode_at role.RouteFailure a) mode.None))

  -- and so with the hold
  hold_by_failure : (h : Hold) → hold_in_range dp h ≡ ((is_in dp role.RouteFailure || not (is_at role.RouteFailure h)) && not (is_at role.Moved h))
  hold_by_failure hold.None = rw (or-true (is_in dp role.RouteFailure))
  hold_by_failure hold.Trigger = rw (or-true (is_in dp role.RouteFailure))
  hold_by_failure (hold.At p) = ap (λ b. b && not (is_role p role.Moved)) (go (is_role p role.RouteFailure) refl)
    where
      go : (b : Bool) → is_role p role.RouteFailure ≡ b → is_in dp p ≡ (is_in dp role.RouteFailure || not b)
      go true e = ap (is_in dp) (same_role p role.RouteFailure e) ∙ sym (or-false (is_in dp role.RouteFailure))
      go false e = all_but_failure p e ∙ sym (or-true (is_in dp role.RouteFailure))

  -- both, as the code tests them
  pub by_failure : (h : Hold) (a : List Arming)
      → (hold_in_range dp h && armings_in_range dp a)
      ≡ (((not (is_at role.Moved h) && not (is_mode (mode_at role.Moved a) mode.Interrupted)) && not (not (is_in dp role.RouteFailure) && is_at role.RouteFailure h))
      && not (not (is_in dp role.RouteFailure) && not (is_mode (mode_at role.RouteFailure a) mode.None)))
  by_failure h a =
      rw (hold_by_failure h, armings_by_failure a)
      (go (is_in dp role.RouteFailure) (is_at role.RouteFailure h) (is_mode (mode_at role.RouteFailure a) mode.None) (not (is_at role.Moved h)) (not (is_mode (mode_at role.Moved a) mode.Interrupted)))
    where
      twice : (b : Bool) → b ≡ ((b && true) && true)
      twice b = sym (and-true (b && true) ∙ and-true b)

      go : (e f g m n : Bool) → (((e || not f) && m) && ((e || g) && n)) ≡ (((m && n) && not (not e && f)) && not (not e && not g))
      go true f g m n = twice (m && n)
      go false true g m n = sym (ap (λ b. b && not (not g)) (and-false (m && n)))
      go false false true m n = twice (m && n)
      go false false false m n = and-false m ∙ sym (and-false ((m && n) && true))
