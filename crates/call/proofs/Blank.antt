-- "A free record is blank: every field zero or none.": exactly the blank record passes the check that says so. (The code's armings are 10.)
use Prim.Native.Nat.{ℕ}
use mathlib.Core.Path.{◌≡◌, refl, ap, ◌∙◌}
use mathlib.Core.Bool.{true, not, false≢true}
use mathlib.Core.List.{List, [], ◌∷◌}
use lib.Dec.{eqb}
use lib.ListN.{length, replicate}
use borrow.Author.Tests.{eqb-true}
use Rattle.forms.specs.declared.item.Bcsm.TheVariants as bcsm
use Rattle.forms.specs.declared.item.Leg.TheVariants.{One, Two}
use Rattle.forms.specs.declared.profile.Handling.TheVariants as handling
use Rattle.forms.proofs.ByteLaws.{and_left, and_right}
use Rattle.call.specs.Types.{Bcsm, Handling, Stage, Presence, Clock, LegState, Hold, Mode, Arming, Number, Record}
use Rattle.call.specs.declared.stages.Stage.TheVariants as stage
use Rattle.call.specs.declared.record.Presence.TheVariants as presence
use Rattle.call.specs.declared.record.Clock.TheVariants as clock
use Rattle.call.specs.declared.record.Hold.TheVariants as hold
use Rattle.call.specs.declared.armings.Mode.TheVariants as mode
use Rattle.forms.specs.Profile.{is_release}
use Rattle.call.specs.Roles.{is_analysing}
use Rattle.call.specs.Armings.{unarmed, is_mode, nothing_armed}
use Rattle.call.specs.Record.{leg, charge, no_charge, is_present, is_pending, is_held, is_originating, places, number_of, leg_at, blank}
use Rattle.call.specs.Range.{places_in_range, is_unused, are_fields_blank, is_no_number, is_blank}
use Rattle.call.proofs.Laws.{each}

-- ---- field by field

analysing : (s : Stage) → is_analysing s ≡ true → s ≡ stage.Analysing
analysing stage.Analysing h = refl
analysing stage.Alerting h = absurd (false≢true h)
analysing stage.Active h = absurd (false≢true h)

absent : (p : Presence) → not (is_present p) ≡ true → p ≡ presence.Absent
absent presence.Absent h = refl
absent presence.Present h = absurd (false≢true h)

no_clock : (k : Clock) → not (is_pending k) ≡ true → k ≡ clock.None
no_clock clock.None h = refl
no_clock clock.Waiting h = absurd (false≢true h)
no_clock clock.Running h = absurd (false≢true h)

unused : (l : LegState) → is_unused l ≡ true → l ≡ leg presence.Absent no_charge
unused l h =
    let f = each (not (is_present l.presence)) (not (is_pending l.charge.clock) ∷ eqb l.charge.period.0 0 ∷ eqb l.charge.start.0 0 ∷ []) h in
    made l.presence l.charge.clock l.charge.period.0 l.charge.start.0 (absent l.presence (f 0)) (no_clock l.charge.clock (f 1)) (eqb-true l.charge.period.0 0 (f 2)) (eqb-true l.charge.start.0 0 (f 3))
  where
    made : (p : Presence) (k : Clock) (x y : ℕ) → p ≡ presence.Absent → k ≡ clock.None → x ≡ 0 → y ≡ 0 → leg p (charge k (record { 0 = x }) (record { 0 = y })) ≡ leg presence.Absent no_charge
    made p k x y e f g h = rw (e, f, g, h)

not_held : (h : Hold) → not (is_held h) ≡ true → h ≡ hold.None
not_held hold.None e = refl
not_held hold.Trigger e = absurd (false≢true e)
not_held (hold.At p) e = absurd (false≢true e)

continues : (h : Handling) → not (is_release h) ≡ true → h ≡ handling.Continue
continues handling.Continue e = refl
continues handling.Release e = absurd (false≢true e)

originates : (b : Bcsm) → is_originating b ≡ true → b ≡ bcsm.Originating
originates bcsm.Originating h = refl
originates bcsm.Terminating h = absurd (false≢true h)

-- ---- the armings and the digits

mode_none : (m : Mode) → is_mode m mode.None ≡ true → m ≡ mode.None
mode_none mode.None h = refl
mode_none mode.Interrupted h = absurd (false≢true h)
mode_none mode.Notify h = absurd (false≢true h)

none_armed : (a : List Arming) → nothing_armed a ≡ true → a ≡ replicate (length a) unarmed
unfolding nothing_armed
none_armed [] h = refl
none_armed (x ∷ l) h =
    let t = is_mode x.mode mode.None in
    ap (λ (q : Mode). record { mode = q } ∷ l) (mode_none x.mode (and_left t (nothing_armed l) h)) ∙ ap (λ q. unarmed ∷ q) (none_armed l (and_right t (nothing_armed l) h))

all_zero : (l : List ℕ) → places_in_range 0 l ≡ true → l ≡ replicate (length l) 0
unfolding places_in_range
all_zero [] h = refl
all_zero (d ∷ l) h = ap (λ q. q ∷ l) (eqb-true d 0 (and_left (eqb d 0) (places_in_range 0 l) h)) ∙ ap (λ q. 0 ∷ q) (all_zero l (and_right (eqb d 0) (places_in_range 0 l) h))

-- ---- the whole record

number : (n : Number) → length n.digits ≡ places → is_no_number n ≡ true → n ≡ number_of 0 0 []
number n whole h =
    let f = each (eqb n.nature 0) (eqb n.count 0 ∷ places_in_range 0 n.digits ∷ []) h in
    numbered n.nature n.count n.digits (eqb-true n.nature 0 (f 0)) (eqb-true n.count 0 (f 1)) (all_zero n.digits (f 2) ∙ rw whole)
  where
    numbered : (x y : ℕ) (l : List ℕ) → x ≡ 0 → y ≡ 0 → l ≡ replicate places 0 → ◌≡◌ {A = Number} (record { nature = x; count = y; digits = l }) (number_of 0 0 [])
    numbered x y l e f g = rw (e, f, g)

made_blank : (s : Stage) (l m : LegState) (h : Hold) (t : ℕ) (a : List Arming) (k d : ℕ) (g : Handling) (b : Bcsm) (n : Number)
    → s ≡ stage.Analysing → l ≡ leg presence.Absent no_charge → m ≡ leg presence.Absent no_charge → h ≡ hold.None → t ≡ 0 → a ≡ replicate 10 unarmed → k ≡ 0 → d ≡ 0 → g ≡ handling.Continue → b ≡ bcsm.Originating
    → n ≡ number_of 0 0 []
    → ◌≡◌ {A = Record} (record { stage = s; leg1 = l.presence; clock1 = l.charge.clock; period1 = l.charge.period; start1 = l.charge.start; leg2 = m.presence; clock2 = m.charge.clock; period2 = m.charge.period; start2 = m.charge.start; hold = h; last = record { 0 = t }; armings = a; kept = record { 0 = k }; timer = record { 0 = d }; handling = g; bcsm = b; number = n }) blank
made_blank s l m h t a k d g b n e1 e2 e3 e4 e5 e6 e7 e8 e9 e10 e11 = rw (e1, e2, e3, e4, e5, e6, e7, e8, e9, e10, e11)

pub blank_passes : is_blank blank ≡ true
unfolding are_fields_blank is_blank nothing_armed places_in_range
blank_passes = refl

pub blank_exactly : (r : Record) → length r.armings ≡ 10 → length r.number.digits ≡ places → is_blank r ≡ true → r ≡ blank
unfolding are_fields_blank is_blank
blank_exactly r ten whole h =
    let f = each (is_analysing r.stage) (is_unused (leg_at One r) ∷ is_unused (leg_at Two r) ∷ not (is_held r.hold) ∷ eqb r.last.0 0 ∷ eqb r.kept.0 0 ∷ eqb r.timer.0 0 ∷ not (is_release r.handling) ∷ is_originating r.bcsm ∷ nothing_armed r.armings ∷ is_no_number r.number ∷ []) h in
    made_blank r.stage (leg_at One r) (leg_at Two r) r.hold r.last.0 r.armings r.kept.0 r.timer.0 r.handling r.bcsm r.number
    (analysing r.stage (f 0)) (unused (leg_at One r) (f 1)) (unused (leg_at Two r) (f 2)) (not_held r.hold (f 3)) (eqb-true r.last.0 0 (f 4)) (none_armed r.armings (f 9) ∙ rw ten)
    (eqb-true r.kept.0 0 (f 5)) (eqb-true r.timer.0 0 (f 6)) (continues r.handling (f 7)) (originates r.bcsm (f 8)) (number r.number whole (f 10))
