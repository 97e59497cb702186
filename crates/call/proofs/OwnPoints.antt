-- T-04: every pair that is reported, or that a call is held at, belongs to the call's own point set or is its trigger's. First over any point set, then by the call's kind; at last of a call by itself, with its kind, which never changes while it is open.
use Prim.Native.Nat.{ℕ}
use mathlib.Core.Path.{◌≡◌, refl, sym, ap, subst, ◌∙◌}
use native.Mathlib.Omega.{arith}
use mathlib.Core.Bool.{Bool, true, false, cond, ◌&&◌, ◌||◌, or-true}
use mathlib.Core.List.{List, [], ◌∷◌}
use lib.Dec.{eqb}
use borrow.Author.Tests.{eq-eqb, not-false}
use Rattle.std.specs.Prelude.{Option, Some, None, Ok, Err}
use Rattle.forms.specs.Fields.{leg_number}
use Rattle.forms.specs.Item.{item_of, rest_of}
use Rattle.forms.proofs.ByteLaws.{and_left, and_right}
use Rattle.call.specs.Types.{Item, Setup, Seconds, Handling, Tenths, Number, Role, Point, PointSet, Mode, Hold, Record, Report, Answer, Check, Kind, Stepped, Opening}
use Rattle.call.specs.declared.kind.Kind.TheVariants as kind
use Rattle.call.specs.declared.armings.Mode.TheVariants as mode
use Rattle.call.specs.declared.record.Hold.TheVariants as hold
use Rattle.call.specs.declared.answers.Report.TheVariants as report
use Rattle.call.specs.Roles.{met_in}
use Rattle.call.specs.Armings.{mode_at}
use Rattle.call.specs.Points.{set_of, is_leg, point_in, is_in, role_in, is_point_set}
use Rattle.call.specs.Record.{is_held, is_present, leg_at}
use Rattle.call.specs.Answers.{is_accepted, remains, first_of, suspension_of}
use Rattle.call.specs.Events.{hold_after, ends_call, event_report, met}
use Rattle.call.specs.Range.{hold_in_range, record_in_range}
use Rattle.call.specs.Kind.{kind_of, is_setup}
use Rattle.call.specs.Refusals.{row1, row3, early_rows_in}
use Rattle.call.specs.Step.{respond_in, respond_of, step_of}
use Rattle.call.specs.Setup.{begun, set_up_of, open_of}
use Rattle.call.specs.Alone.{unless_refused, setup_alone, other_alone, alone_step}
use Rattle.call.proofs.Laws.{on_cond, on_guard, no_row}
use Rattle.call.proofs.PointLaws.{sets_fit, role_exactly}
use Rattle.call.proofs.CallTheorems.{is_over, Does, refuses, meets, ends, goes, responds, kind_kept}
use Rattle.call.proofs.SetupLaws.{AsSetup, setup, other, as_setup, on_set_up, on_open, of_kind, open_kind}
use Rattle.call.proofs.InRange.{fits}

-- ---- the pairs of an answer

abbrev pub is_known : Option Role → Bool
is_known None = false
is_known (Some p) = true

abbrev pub is_same : Point → Point → Bool
is_same q p = is_leg q.leg p.leg && eqb q.number p.number

-- the trigger's pair, or one that names a role
abbrev pub belongs : PointSet → Point → Bool
belongs dp q = is_same q dp.trigger || is_known (role_in dp (leg_number q.leg) q.number)

abbrev pub is_own_suspension : PointSet → Option Point → Bool
is_own_suspension dp None = true
is_own_suspension dp (Some q) = belongs dp q

abbrev pub is_own_report : PointSet → Option Report → Bool
is_own_report dp None = true
is_own_report dp (Some (report.Interrupting q)) = belongs dp q
is_own_report dp (Some (report.Notification q)) = belongs dp q

abbrev pub is_own : PointSet → Answer → Bool
is_own dp (Err n) = true
is_own dp (Ok o) = is_own_suspension dp o.suspension && is_own_report dp o.reports.event

abbrev Own : PointSet → Stepped → Type 0
Own dp s = is_own dp s.answer ≡ true

-- ---- any point set

trigger_belongs : (dp : PointSet) → belongs dp dp.trigger ≡ true
trigger_belongs dp = rw (eq-eqb (leg_number dp.trigger.leg) _ refl, eq-eqb dp.trigger.number _ refl)

module _ (dp : PointSet) (fit : is_point_set dp ≡ true) where
  point_belongs : (p : Role) → is_in dp p ≡ true → belongs dp (point_in dp p) ≡ true
  point_belongs p on =
      let q = point_in dp p in
      let named : role_in dp (leg_number q.leg) q.number ≡ Some p = (role_exactly dp fit p (leg_number q.leg) q.number).1 (rw (on, eq-eqb (leg_number q.leg) _ refl, eq-eqb q.number _ refl)) in
      rw named (or-true (is_same q dp.trigger))

  hold_own : (h : Hold) → hold_in_range dp h ≡ true → is_own_suspension dp (suspension_of dp h) ≡ true
  hold_own hold.None k = refl
  hold_own hold.Trigger k = trigger_belongs dp
  hold_own (hold.At p) k = point_belongs p (and_left (is_in dp p) _ k)

  -- a met role's point is told, and held at, if it is armed; an earlier hold may stay
  met_own : (p : Role) → is_in dp p ≡ true → (m : Mode) (earlier : Hold) → hold_in_range dp earlier ≡ true → (is_own_suspension dp (suspension_of dp (hold_after p m earlier)) && is_own_report dp (event_report dp p m)) ≡ true
  met_own p on mode.None earlier k = rw (hold_own earlier k)
  met_own p on mode.Interrupted earlier k = rw (point_belongs p on)
  met_own p on mode.Notify earlier k = rw (hold_own earlier k) (point_belongs p on)

  respond_in_own : (r : Record) (i : Item) (rest : List ℕ) → hold_in_range dp r.hold ≡ true → Own dp (respond_in dp r i rest)
  unfolding met
  respond_in_own r i rest k = go (responds dp r i rest)
    where
      still : (h : Hold) → (is_held h ≡ true → h ≡ r.hold) → hold_in_range dp h ≡ true
      still hold.None f = refl
      still hold.Trigger f = refl
      still (hold.At p) f = ap (hold_in_range dp) (f refl) ∙ k

      go : {s : Stepped} → Does dp r s → Own dp s
      go (refuses n) = refl
      go (meets p t e) =
          let m = mode_at p r.armings in
          let on : is_in dp p ≡ true = and_right (met_in p r.stage) _ (and_left (met_in p r.stage && is_in dp p) (is_present (leg_at (point_in dp p).leg r).presence) e) in
          let own = met_own p on m r.hold k in
          on_cond (Own dp) (ends_call p m r.hold) _ _ (and_right (is_own_suspension dp (suspension_of dp (hold_after p m r.hold))) _ own) own
      go (ends s t) = refl
      go (goes next told d e f) = rw (hold_own next.hold (still next.hold f.1), e)

-- ---- by the call's kind

-- an open call's record being in range
pub respond_own : (r : Record) (i : Item) (rest : List ℕ) → record_in_range r ≡ true → is_own (set_of r.bcsm) (respond_of r i rest).answer ≡ true
respond_own r i rest h = respond_in_own (set_of r.bcsm) (sets_fit r.bcsm) r i rest (fits (set_of r.bcsm) r h).hold

-- any record: one that is out of range is refused
pub step_own : (r : Record) (i : Item) (rest : List ℕ) → is_own (set_of r.bcsm) (step_of r i rest).answer ≡ true
unfolding step_of
step_own r i rest =
    on_guard (Own (set_of r.bcsm)) (first_of (row1 i rest ∷ row3 r ∷ [])) r (respond_of r i rest) (λ n. refl)
    (λ e. respond_own r i rest (not-false (record_in_range r) (no_row (row1 i rest ∷ row3 r ∷ []) e 1)))

-- a Setup
module _ (i : Item) (rest : List ℕ) (u : Setup) (is-setup : kind_of i.body ≡ kind.Setup u) where
  begun_own : (triggered : Bool) (timer : Seconds) (handling : Handling) (number : Number) (t : Tenths) → Own (set_of u.bcsm) (begun u.bcsm triggered timer handling number t)
  begun_own true timer handling number t = rw (trigger_belongs (set_of u.bcsm))
  begun_own false timer handling number t = refl

  pub set_up_own : (o : Opening) → is_own (set_of u.bcsm) (set_up_of i rest o).answer ≡ true
  set_up_own = on_set_up i rest (Own (set_of u.bcsm)) (λ m. refl) (of_kind i rest u is-setup (Own (set_of u.bcsm)) begun_own)

  pub open_own : (s : List ℕ) → is_own (set_of u.bcsm) (open_of i rest s).answer ≡ true
  open_own = on_open i rest (Own (set_of u.bcsm)) (λ m. refl) (of_kind i rest u is-setup (Own (set_of u.bcsm)) begun_own)

-- ---- a call by itself, with which demand 3 compares the table; whatever bytes it is fed

-- a record that is kept is the old one, or the next of an accepted item that does not end the call
kept_by_lem : (P : Record → Type 0) (k : Option Record) (a : Answer) (next kept : Record) → (k ≡ Some kept → P kept) → (is_accepted a ≡ true → is_over a ≡ false → P next) → remains a k None (Some next) ≡ Some kept → P kept
kept_by_lem P k (Err n) next kept old new e = old e
kept_by_lem P k (Ok o) next kept old new e = go o.over refl e
  where
    go : (b : Bool) → o.over ≡ b → cond b None (Some next) ≡ Some kept → P kept
    go true h e = absurd (let z : ◌≡◌ {A = ℕ} 0 1 = cc in omega arith)
    go false h e = let same : next ≡ kept = cc in subst P same (new refl h)

module _ (item profile : List ℕ) where
  abbrev i : Item
  i = item_of item

  abbrev rest : List ℕ
  rest = rest_of i.body item

  -- an open call that stays open is of the same kind
  pub alone_kind : (r kept : Record) → (alone_step (Some r) item profile).1 ≡ Some kept → kept.bcsm ≡ r.bcsm
  unfolding alone_step
  alone_kind r kept = go (first_of (early_rows_in item profile)) (is_setup i)
    where
      old : Some r ≡ Some kept → kept.bcsm ≡ r.bcsm
      old e = let same : r ≡ kept = cc in ap (λ s. s.bcsm) (sym same)

      go : (c : Check) (b : Bool) → (unless_refused c (Some r) (cond b (setup_alone (Some r) i rest profile) (other_alone (Some r) i rest))).1 ≡ Some kept → kept.bcsm ≡ r.bcsm
      go (Err n) b = old
      go (Ok tt) true = old
      go (Ok tt) false = let s = respond_of r i rest in kept_by_lem (λ x. x.bcsm ≡ r.bcsm) (Some r) s.answer s.next kept old (λ a. kind_kept r i rest)

  -- its answers name its own points
  pub alone_own : (r : Record) → record_in_range r ≡ true → is_own (set_of r.bcsm) (alone_step (Some r) item profile).0 ≡ true
  unfolding alone_step
  alone_own r h = go (first_of (early_rows_in item profile)) (is_setup i)
    where
      go : (c : Check) (b : Bool) → is_own (set_of r.bcsm) (unless_refused c (Some r) (cond b (setup_alone (Some r) i rest profile) (other_alone (Some r) i rest))).0 ≡ true
      go (Err n) b = refl
      go (Ok tt) true = refl
      go (Ok tt) false = respond_own r i rest h

  -- and so does the answer that opens it
  pub opened_own : (kept : Record) → (alone_step None item profile).1 ≡ Some kept → is_own (set_of kept.bcsm) (alone_step None item profile).0 ≡ true
  unfolding alone_step
  opened_own kept = go (first_of (early_rows_in item profile)) (as_setup (kind_of i.body)) refl
    where
      absent : None ≡ Some kept → {A : Type 0} → A
      absent e = absurd (let z : ◌≡◌ {A = ℕ} 0 1 = cc in omega arith)

      go : (c : Check) {k : Kind} → AsSetup k → kind_of i.body ≡ k
          → (unless_refused c None (cond (is_setup i) (setup_alone None i rest profile) (other_alone None i rest))).1 ≡ Some kept
          → is_own (set_of kept.bcsm) (unless_refused c None (cond (is_setup i) (setup_alone None i rest profile) (other_alone None i rest))).0 ≡ true
      go (Err n) x e = λ f. absent f
      go (Ok tt) (setup u) e =
          let s = open_of i rest profile in
          rw e (kept_by_lem (λ x. is_own (set_of x.bcsm) s.answer ≡ true) None s.answer s.next kept (λ f. absent f) (λ a o. rw (open_kind i rest u e profile a) (open_own i rest u e profile)))
      go (Ok tt) (other g) e = rw (e, g Bool (λ u. true) false) (λ f. absent f)
